use Rattle.std.proofs.Common.{◌≤◌, length, ap, arith}
use Rattle.af_base.specs.declared.limits.TheConstants.{MAX_BACKLOG}
use Rattle.af_base.proofs.PlainLists.{held_listed}
use Rattle.af_collect.proofs.listings.listed_socket.Goals as goal

pub returns-clause-few : goal.returns-clause-few
returns-clause-few c =
    let messages = c.in_ok-listed_messages.field-0 in
    let waiting = c.in_ok-numbers_waiting.field-0 in
    let most : length waiting.items ≤ MAX_BACKLOG = omega (arith, ap length c.in_ok-numbers_waiting.ensures, c.requires) in
    let few = c.in_ok-listed_messages.ensures.few in
    omega (arith, held_listed (record { queue = messages; backlog = waiting }), most, few)
