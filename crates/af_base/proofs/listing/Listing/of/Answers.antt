use Rattle.std.proofs.Common.{[], subst, ap, ◌∙◌}
use Rattle.af_base.specs.Counts.{charged, inflight, refs, total}
use Rattle.af_base.specs.Listing.{IsTally, listed}
use Rattle.af_base.proofs.listing.Listing.of.Goals as goal

pub invariant_of-result : goal.invariant_of-result
invariant_of-result c = record {
  ordered_tables = c.requires.tables;
  ordered_files = c.requires.files;
  each_held =
      subst (λ files. IsTally (refs (listed c.args.tables.items files)) c.in_ok-held_files.held_files.items) c.as_slice-2.ensures.value
      (subst (λ tables. IsTally (refs (listed tables c.as_slice-2.result.now)) c.in_ok-held_files.held_files.items) c.as_slice.ensures.value c.in_ok-held_files.ensures);
  each_queued = subst (λ files. IsTally (inflight (listed [] files)) c.in_ok-queued_files.queued_files.items) c.as_slice-3.ensures.value c.in_ok-queued_files.ensures.each;
  all_queued = c.in_ok-queued_files.ensures.all ∙ ap (λ files. total (listed [] files)) c.as_slice-3.ensures.value;
  each_payer = subst (λ files. IsTally (charged (listed [] files)) c.in_ok-payers.payers.items) c.as_slice-4.ensures.value c.in_ok-payers.ensures;
}
