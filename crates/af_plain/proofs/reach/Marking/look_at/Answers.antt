use Rattle.std.proofs.Common.{[], ap, sym, subst, ◌∙◌}
use Rattle.std.specs.Prelude.{OnOk, option_map}
use Rattle.std.specs.Option.{option_map_or}
use Rattle.af_base.specs.Listing.{file_of}
use Rattle.af_base.specs.Places.{contents}
use Rattle.af_plain.specs.Marking.{Marks}
use Rattle.af_plain.proofs.SearchInvariant.{marks-none}
use Rattle.af_plain.proofs.ReachedFiles.{held_found}
use Rattle.af_plain.proofs.reach.Marking.look_at.Goals as goal

pub returns-in_default : goal.returns-in_default
returns-in_default c =
    subst (Marks c.args.self.now c.args.self.now) (sym (held_found c.args.files.now c.args.ino ∙ ap (λ o. option_map_or contents (option_map file_of o) []) (sym c.in_default.ensures))) (marks-none c.args.self.now)

pub returns : goal.returns
returns c =
    subst (λ held. OnOk c.mark_held.result (Marks c.args.self.now c.mark_held.new.self held)) (sym (held_found c.args.files.now c.args.ino ∙ ap (λ o. option_map_or contents (option_map file_of o) []) (sym c.in-Some.ensures))) c.mark_held.ensures
