-- The text of a report, by its name.
use Rattle.std.specs.Prelude.{◌≡◌, ℕ, List}
use Rattle.af_base.specs.World.{World}
use Rattle.af_report.specs.Check.{IsCheckText}
use Rattle.af_report.specs.Table.{table_text}
use Rattle.af_report.specs.Totals.{totals_text}
use Rattle.scm_lines.specs.declared.line.Report.{Report}
use Rattle.scm_lines.specs.declared.line.Report.TheVariants as report

-- The text of a report of this world.
abbrev pub IsReportText : World → Report → List ℕ → Type 0
IsReportText w report.Table text = text ≡ table_text w
IsReportText w report.Totals text = text ≡ totals_text w
IsReportText w report.Check text = IsCheckText w text
