use Rattle.std.proofs.Common.{◌≡◌, ◌≤◌, ◌+◌, ◌*◌, ◌++◌, length, map}
use Rattle.std.specs.List.{sum_by}
use Rattle.af_base.specs.Bare.{bare_message}
use Rattle.af_base.specs.Listing.{message_of}
use Rattle.af_base.specs.declared.limits.TheConstants.{MAX_MESSAGES, SCM_MAX_FD}
use Rattle.af_collect.proofs.listings.listed_messages.Given as goal

abbrev pub invariant-loop-message : goal.invariant-loop-message
invariant-loop-message l = record {
  so_far : map message_of l.messages.items ++ map bare_message l.left ≡ map bare_message l.queue;
  few : sum_by (λ m. length m.attached.items) l.messages.items + SCM_MAX_FD * length l.left ≤ MAX_MESSAGES * SCM_MAX_FD;
}

abbrev pub decreases-loop-message : goal.decreases-loop-message
decreases-loop-message l = length l.left
