use Rattle.std.proofs.Common.{◌≡◌, ◌++◌, [], ◌∷◌, ap, append-nil, sym, ◌∙◌}
use Rattle.std.specs.Prelude.{option_to_list}
use Rattle.af_base.specs.declared.events.Event.TheVariants as event
use Rattle.af_base.specs.declared.events.Reply.TheVariants as reply
use Rattle.scmgc.proofs.race.Parts.{seats-ended}
use Rattle.scmgc.proofs.race.part.finish.Goals as goal

pub returns : goal.returns
returns g c =
    let split : c.args.seats.items ≡ c.pop.new.self.items ++ c.unwrap-main.result ∷ [] = c.pop.ensures.items ∙ ap (λ o. c.pop.new.self.items ++ option_to_list o) c.unwrap-main.ensures in
    let done = c.in_ok-last_pass.ensures.done in
    seats-ended c.args.workers c.args.seats.items c.pop.new.self.items c.unwrap-main.result c.requires.fresh split c.push.new.self.items c.last_pass.new.main
    c.in_ok-push.ensures.items c.last_pass.ensures.number ([], done.0, done.1, ap (λ s. s.list) done.2 ∙ ap (λ l. l ++ (event.Pass, reply.Done done.0 done.1) ∷ []) (sym (append-nil c.unwrap-main.result.list)))
