use Rattle.std.proofs.Common.{◌+◌, ◌∙◌, ap, nat_eq, arith}
use Rattle.std.specs.FinMap as map
use Rattle.std.specs.Prelude.{is_some}
use Rattle.std.specs.Ordering.{nat_cmp}
use Rattle.af_base.proofs.ExactLists.{just-empty}
use Rattle.af_ledger.specs.Counted.{CountView, places_in}
use Rattle.af_mark.specs.Grey.{MarkView, color_in, colors_in}
use Rattle.af_mark.specs.MarksView.{is_grey_color}
use Rattle.af_mark.proofs.Colors.{upto_none}
use Rattle.ordered_slab.proofs.Parts.{part_none}
use Rattle.af_desc.proofs.FilesInvariant.{embryos-empty, white-none}
use Rattle.af_desc.proofs.FileNames.{named-none-yet}
use Rattle.af_desc.proofs.files.Files.new.Goals as goal

pub invariant_of-result : goal.invariant_of-result
invariant_of-result c =
    let none = c.new.ensures.files in
    let uncounted = c.new.ensures.counts in
    let m = c.new.result.marks in
    let markless = c.new.ensures.marks in
    record {
      last = ap (λ n. n + 1) c.new.ensures.last;
      begins = ap (λ m. map.contains_key m 0) none ∙ ap is_some (map.get-empty nat_cmp 0);
      named = named-none-yet c.new-4.result c.new.result.files c.new-4.ensures none;
      unreferenced_listed = just-empty (λ n. nat_eq (places_in n) 0) c.new.result.counts _ uncounted c.new-2.ensures.items;
      fits = omega (arith, ap map.len uncounted ∙ map.len-empty nat_cmp CountView);
      listed = (
        upto_none 0 m markless,
        just-empty is_grey_color (colors_in 0 m) _ (part_none (color_in 0) m markless) c.new-3.ensures.items,
        omega (arith, ap map.len markless ∙ map.len-empty nat_cmp MarkView),
      );
      backlogged = embryos-empty c.new.result.counts 0 uncounted;
      whites = white-none m 0 1;
      space = (omega (arith, c.new.ensures.space), omega (arith, c.new.ensures.space));
    }

pub returns-clause-marks : goal.returns-clause-marks
returns-clause-marks c = λ i. record { colors = part_none (color_in 0) c.new.result.marks c.new.ensures.marks i; bound = 0 }
