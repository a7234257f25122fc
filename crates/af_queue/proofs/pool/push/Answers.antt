use Rattle.std.proofs.Common.{◌≡◌, ◌||◌, ◌∙◌, Bool, true, false, arith, ap, refl, sym, true≢false}
use Rattle.af_base.specs.Places.{attached_in}
use Rattle.af_queue.specs.Chains.{messages_of}
use Rattle.af_queue.proofs.Chains.{no_files_pushed, path_many, pushed, pushed_elsewhere}
use Rattle.af_queue.proofs.pool.push.Goals as goal

-- Neither of two tests holds.
neither : (a b : Bool) → (a || b) ≡ false → (a ≡ false) × (b ≡ false)
neither true b e = absurd (true≢false e)
neither false b e = (refl, e)

pub returns-clause-chain : goal.returns-clause-chain
returns-clause-chain c =
    let chain = c.args.chain.now in
    let insert = c.insert_reserved-key in
    let few = c.requires.few in
    let more = pushed c.args.nodes.now insert.new.self c.link.new.nodes chain.last insert.result _ insert.ensures.was_vacant c.requires.within insert.ensures.updates c.link.ensures.linked c.link.ensures.others chain.first chain.len c.if-chain-eq0.false c.requires.chain.path in
    record {
      few = omega (arith, few, path_many c.args.nodes.now chain.last chain.first chain.len c.requires.chain.path);
      path = more.0;
      no_files = λ e. let none = neither chain.has_files c.has_files-has_files.result e in ap attached_in more.1 ∙ no_files_pushed (messages_of c.args.nodes.now chain) c.args.message (c.requires.chain.no_files none.0) (sym c.has_files-has_files.ensures ∙ none.1);
    }

pub returns-clause-messages : goal.returns-clause-messages
returns-clause-messages c =
    let chain = c.args.chain.now in
    let insert = c.insert_reserved-key in
    (pushed c.args.nodes.now insert.new.self c.link.new.nodes chain.last insert.result _ insert.ensures.was_vacant c.requires.within insert.ensures.updates c.link.ensures.linked c.link.ensures.others chain.first chain.len c.if-chain-eq0.false c.requires.chain.path).1

pub returns-clause-others : goal.returns-clause-others
returns-clause-others c =
    let chain = c.args.chain.now in
    let insert = c.insert_reserved-key in
    pushed_elsewhere c.args.nodes.now insert.new.self c.link.new.nodes chain.last insert.result _ insert.ensures.was_vacant c.requires.within insert.ensures.updates c.link.ensures.linked c.link.ensures.others chain.first chain.len c.if-chain-eq0.false c.requires.chain.path
