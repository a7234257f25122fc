use Rattle.std.proofs.Common.{rules, arith}
use Rattle.std.specs.Str.Parse.{ExplainsUnsignedError, HasUnsignedDigitsIfOk, ParsesUnsigned}
use Rattle.clap.specs.Words.{found_of}
use Rattle.scmgc.proofs.Numbers.{is_number, none_read, out_of_bounds}
use Rattle.scmgc.proofs.task.number.Goals as goal

pub returns-in-Some-clause-some : goal.returns-in-Some-clause-some
returns-in-Some-clause-some c =
    is_number (λ bs r. ParsesUnsigned 32 10 bs r × ExplainsUnsignedError 10 bs r × HasUnsignedDigitsIfOk bs r) (λ t x gives. gives.0) (found_of c.args.matches.now) c.args.name.now c.get_one.result
    c.get_one.ensures.none c.get_one.ensures.value c.args.least c.args.most c.in-Some.number c.in-Some.is c.if-least-number.true c.if-number-most.true

pub returns-in_default-clause-none : goal.returns-in_default-clause-none
returns-in_default-clause-none c =
    let high = c.if-number-most.false in
    out_of_bounds (λ bs r. ParsesUnsigned 32 10 bs r × ExplainsUnsignedError 10 bs r × HasUnsignedDigitsIfOk bs r) (λ t x gives. gives.0) (found_of c.args.matches.now) c.args.name.now c.get_one.result
    c.get_one.ensures.none c.get_one.ensures.value c.args.least c.args.most c.in-Some.number (search rules) c.in-Some.is (λ low few. absurd (omega (arith, few, high)))

pub returns-in_default-2-clause-none : goal.returns-in_default-2-clause-none
returns-in_default-2-clause-none c =
    let below = c.if-least-number.false in
    out_of_bounds (λ bs r. ParsesUnsigned 32 10 bs r × ExplainsUnsignedError 10 bs r × HasUnsignedDigitsIfOk bs r) (λ t x gives. gives.0) (found_of c.args.matches.now) c.args.name.now c.get_one.result
    c.get_one.ensures.none c.get_one.ensures.value c.args.least c.args.most c.in-Some.number (search rules) c.in-Some.is (λ low few. absurd (omega (arith, low, below)))

pub returns-in_default-3-clause-none : goal.returns-in_default-3-clause-none
returns-in_default-3-clause-none c =
    none_read (λ bs r. ParsesUnsigned 32 10 bs r × ExplainsUnsignedError 10 bs r × HasUnsignedDigitsIfOk bs r) (λ t x gives. gives.0) (found_of c.args.matches.now) c.args.name.now c.get_one.result
    c.get_one.ensures.none c.get_one.ensures.value c.args.least c.args.most (search rules) c.in_default.is
