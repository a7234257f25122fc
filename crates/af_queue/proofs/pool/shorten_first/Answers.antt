use Rattle.std.proofs.Common.{[], sym, ap, ◌∙◌}
use Rattle.std.specs.Option.{option_copied_mut}
use Rattle.af_base.specs.Places.{attached_in}
use Rattle.af_base.specs.World.{Message}
use Rattle.af_queue.proofs.Chains.{no_files_cut, shortened}
use Rattle.af_queue.proofs.pool.shorten_first.Goals as goal

pub returns-in-Some-clause-chain : goal.returns-in-Some-clause-chain
returns-in-Some-clause-chain c =
    let chain = c.args.chain.now in
    let there = sym c.get_mut.ensures.value ∙ ap option_copied_mut c.in-Some.is in
    let is = c.take_files.ensures.rest ∙ ap (λ (m : Message). record m { attached = [] }) c.drop_front.ensures in
    let short = shortened c.args.nodes.now chain.last chain.first chain.len c.in-Some.node.now c.take_files.new.message c.args.count c.requires.some there is c.requires.chain.path c.requires.long in
    record { few = c.requires.chain.few; path = short.0; no_files = λ e. ap attached_in short.1 ∙ no_files_cut c.args.count _ (c.requires.chain.no_files e) }

pub returns-in-Some-clause-messages : goal.returns-in-Some-clause-messages
returns-in-Some-clause-messages c =
    let chain = c.args.chain.now in
    let there = sym c.get_mut.ensures.value ∙ ap option_copied_mut c.in-Some.is in
    let is = c.take_files.ensures.rest ∙ ap (λ (m : Message). record m { attached = [] }) c.drop_front.ensures in
    (shortened c.args.nodes.now chain.last chain.first chain.len c.in-Some.node.now c.take_files.new.message c.args.count c.requires.some there is c.requires.chain.path c.requires.long).1

pub returns-in-Some-clause-others : goal.returns-in-Some-clause-others
returns-in-Some-clause-others c =
    let chain = c.args.chain.now in
    let there = sym c.get_mut.ensures.value ∙ ap option_copied_mut c.in-Some.is in
    let is = c.take_files.ensures.rest ∙ ap (λ (m : Message). record m { attached = [] }) c.drop_front.ensures in
    (shortened c.args.nodes.now chain.last chain.first chain.len c.in-Some.node.now c.take_files.new.message c.args.count c.requires.some there is c.requires.chain.path c.requires.long).2
