use Rattle.std.proofs.Common.{ap, sym, ◌∙◌}
use Rattle.std.proofs.lemmas.Bool.{ltb-false}
use Rattle.af_ledger.specs.Tally.{count_in_map}
use Rattle.af_desc.specs.FilesView.{FilesView}
use Rattle.af_desc.proofs.FilesInvariant.{embryos-none}
use Rattle.af_desc.proofs.files.Files.has_embryos.Goals as goal

pub returns : goal.returns
returns c = λ e. λ f. ap (λ (v : FilesView). (count_in_map v.counts f).waiting) (sym c.self.view_is) ∙ embryos-none c.self.inside.rows.counts c.self.inside.embryos (ltb-false 0 c.self.inside.embryos e) c.self.invariant.backlogged f
