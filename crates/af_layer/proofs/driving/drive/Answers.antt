use Rattle.std.proofs.Common.{List, length, subst}
use Rattle.std.specs.Prelude.{None, Some}
use Rattle.af_layer.specs.Drive.{works_of}
use Rattle.af_layer.specs.Workers.{LeastBelow, WorkerView}
use Rattle.af_layer.proofs.Drives.{driven-made, driven-part, driven-still, first-short}
use Rattle.af_layer.proofs.driving.drive.Goals as goal

pub returns-then-not-are_enough-clause-part : goal.returns-then-not-are_enough-clause-part
returns-then-not-are_enough-clause-part g c = driven-still c.args.seats.items (works_of c.args.scripts.items c.args.collector)

pub returns-in_default-clause-part : goal.returns-in_default-clause-part
returns-in_default-clause-part g c = driven-still c.args.seats.items (works_of c.args.scripts.items c.args.collector)

pub returns-in-None-clause-done : goal.returns-in-None-clause-done
returns-in-None-clause-done g c =
    driven-made c.args.seats.items (works_of c.args.scripts.items c.args.collector) c.hand_out-workers.result.items c.run-workers.result.items c.take_back-seats.result.items c.hand_out-workers.ensures.workers
    c.run-workers.ensures.count c.run-workers.ensures.worked c.take_back-seats.ensures (subst (λ (l : List WorkerView). LeastBelow l (length l) None) c.as_slice-4.ensures.value c.in-None.ensures)

pub returns-in-Some-clause-part : goal.returns-in-Some-clause-part
returns-in-Some-clause-part g c =
    driven-part c.args.seats.items (works_of c.args.scripts.items c.args.collector) c.hand_out-workers.result.items c.run-workers.result.items c.take_back-seats.result.items c.hand_out-workers.ensures.workers
    c.run-workers.ensures.count c.run-workers.ensures.worked c.take_back-seats.ensures

pub returns-in-Some-clause-fault : goal.returns-in-Some-clause-fault
returns-in-Some-clause-fault g c =
    first-short c.args.seats.items (works_of c.args.scripts.items c.args.collector) c.hand_out-workers.result.items c.run-workers.result.items c.take_back-seats.result.items c.hand_out-workers.ensures.workers
    c.run-workers.ensures.count c.run-workers.ensures.worked c.take_back-seats.ensures c.in-Some.number c.in-Some.fault
    (subst (λ (l : List WorkerView). LeastBelow l (length l) (Some (c.in-Some.number, c.in-Some.fault))) c.as_slice-4.ensures.value c.in-Some.ensures)
