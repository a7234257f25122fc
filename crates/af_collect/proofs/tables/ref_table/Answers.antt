use Rattle.std.proofs.Common.{◌≡◌, ◌<◌, ◌+◌, ◌-◌, length, refl, sym, ap, subst, ◌∙◌, arith}
use Rattle.std.specs.FinMap as map
use Rattle.std.proofs.lemmas.Option.{slice_get_read}
use Rattle.af_ledger.specs.Tally.{kept_of}
use Rattle.af_collect.proofs.CountChanges.{counts-alone}
use Rattle.af_collect.proofs.ProcessTables.{Joining, joining-done, joining-down, joining-fits, joining-held, joining-none, joining-past, joining-up}
use Rattle.af_collect.proofs.tables.ref_table.Goals as goal

pub loop-number-init : goal.loop-number-init
loop-number-init c = record {
  joining = λ w ch. joining-none w c.args.process.now.process (length c.run_from-front.result.now) (kept_of c.args.files.now.counts ch);
  rest = refl;
}

pub hold_again-requires-clause-held : goal.hold_again-requires-clause-held
hold_again-requires-clause-held c =
    let w = c.requires.0 in
    let ch = c.requires.1 in
    let joins = c.requires.4 in
    let n = c.loop-number.number - 1 in
    let low : n < length c.run_from-front.result.now = omega (arith, c.loop-number-test.true, c.loop-number.auto.number) in
    let here : n ≡ 0 + n = omega arith in
    let is = ap (map.get c.args.process.now.process.table) here ∙ c.run_from-front.ensures.«open» n low ∙ slice_get_read _ _ _ _ refl low c.index-front-number.is in
    let held = joining-held w c.args.process.now.process c.loop-number.number _ (kept_of c.loop-number.files.counts ch) (c.loop-number.invariant.joining w ch joins) (kept_of c.args.files.now.counts ch) joins n c.index-front-number.result is c.requires.2 c.requires.3 in
    omega (arith, held.0)

pub hold_again-requires-clause-countable : goal.hold_again-requires-clause-countable
hold_again-requires-clause-countable c =
    let w = c.requires.0 in
    let ch = c.requires.1 in
    let joins = c.requires.4 in
    let n = c.loop-number.number - 1 in
    let low : n < length c.run_from-front.result.now = omega (arith, c.loop-number-test.true, c.loop-number.auto.number) in
    let here : n ≡ 0 + n = omega arith in
    let is = ap (map.get c.args.process.now.process.table) here ∙ c.run_from-front.ensures.«open» n low ∙ slice_get_read _ _ _ _ refl low c.index-front-number.is in
    (joining-fits w c.args.process.now.process c.loop-number.number _ (kept_of c.loop-number.files.counts ch) (c.loop-number.invariant.joining w ch joins) (kept_of c.args.files.now.counts ch) joins n c.index-front-number.result is).0

pub loop-number-preserved : goal.loop-number-preserved
loop-number-preserved c =
    let q = c.args.process.now.process in
    let one = c.hold_again.ensures in
    let n = c.loop-number.number - 1 in
    let end = length c.run_from-front.result.now in
    let low : n < end = omega (arith, c.loop-number-test.true, c.loop-number.auto.number) in
    let next : n + 1 ≡ c.loop-number.number = omega (arith, c.loop-number-test.true) in
    let here : n ≡ 0 + n = omega arith in
    let is = ap (map.get q.table) here ∙ c.run_from-front.ensures.«open» n low ∙ slice_get_read _ _ _ _ refl low c.index-front-number.is in
    record {
      joining = λ w ch joins. subst (Joining w q n end) (sym (ap (λ v. kept_of v.counts ch) one)) (joining-down w q c.loop-number.number end (kept_of c.loop-number.files.counts ch) (c.loop-number.invariant.joining w ch joins) (kept_of c.args.files.now.counts ch) joins n c.index-front-number.result is low next);
      rest = counts-alone c.args.files.now _ _ _ one c.loop-number.invariant.rest;
    }

pub loop-fd-init : goal.loop-fd-init
loop-fd-init c =
    let end = length c.run_from-front.result.now in
    let all : c.loop-number.number ≡ 0 = omega (arith, c.loop-number-test.false) in
    record {
      joining = λ w ch joins. subst (λ n. Joining w c.args.process.now.process n end (kept_of c.loop-number.files.counts ch)) all (c.loop-number.invariant.joining w ch joins);
      rest = c.loop-number.invariant.rest;
      low = omega (arith, c.run_from-front.ensures.low);
    }

pub hold_again-requires-in-Some-clause-held : goal.hold_again-requires-in-Some-clause-held
hold_again-requires-in-Some-clause-held c =
    let w = c.requires.0 in
    let ch = c.requires.1 in
    let joins = c.requires.4 in
    let e = c.in-Some.ensures in
    let part = joining-past w c.args.process.now.process 0 c.loop-fd.from (kept_of c.loop-fd.files.counts ch) (c.loop-fd.invariant.joining w ch joins) _ e.reached e.least in
    let held = joining-held w c.args.process.now.process 0 _ (kept_of c.loop-fd.files.counts ch) part (kept_of c.args.files.now.counts ch) joins _ _ e.«open» c.requires.2 c.requires.3 in
    omega (arith, held.0)

pub hold_again-requires-in-Some-clause-countable : goal.hold_again-requires-in-Some-clause-countable
hold_again-requires-in-Some-clause-countable c =
    let w = c.requires.0 in
    let ch = c.requires.1 in
    let joins = c.requires.4 in
    let e = c.in-Some.ensures in
    let part = joining-past w c.args.process.now.process 0 c.loop-fd.from (kept_of c.loop-fd.files.counts ch) (c.loop-fd.invariant.joining w ch joins) _ e.reached e.least in
    (joining-fits w c.args.process.now.process 0 _ (kept_of c.loop-fd.files.counts ch) part (kept_of c.args.files.now.counts ch) joins _ _ e.«open»).0

pub loop-fd-preserved : goal.loop-fd-preserved
loop-fd-preserved c =
    let q = c.args.process.now.process in
    let one = c.hold_again-in-Some.ensures in
    let e = c.in-Some.ensures in
    record {
      joining = λ w ch joins.
          let part = joining-past w q 0 c.loop-fd.from (kept_of c.loop-fd.files.counts ch) (c.loop-fd.invariant.joining w ch joins) _ e.reached e.least in
          subst (λ n. Joining w q 0 (n + 1) (kept_of c.hold_again-in-Some.new.self.counts ch)) (sym c.fd.view_is) (subst (Joining w q 0 _) (sym (ap (λ v. kept_of v.counts ch) one)) (joining-up w q 0 _ (kept_of c.loop-fd.files.counts ch) part (kept_of c.args.files.now.counts ch) joins _ _ e.«open» (omega arith) refl));
      rest = counts-alone c.args.files.now _ _ _ one c.loop-fd.invariant.rest;
      low = omega (arith, e.low, c.fd.view_is);
    }

pub returns-clause-exact : goal.returns-clause-exact
returns-clause-exact c = λ w ch joins. joining-done w c.args.process.now.process c.loop-fd.from (kept_of c.loop-fd.files.counts ch) (c.loop-fd.invariant.joining w ch joins) c.in_default.ensures.none
