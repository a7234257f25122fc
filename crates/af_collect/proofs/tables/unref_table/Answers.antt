use Rattle.std.proofs.Common.{◌≡◌, ◌<◌, ◌+◌, ◌-◌, inl, inr, length, refl, sym, ap, subst, ◌∙◌, arith}
use Rattle.std.specs.FinMap as map
use Rattle.std.proofs.lemmas.Option.{slice_get_read}
use Rattle.af_ledger.specs.Tally.{kept_of}
use Rattle.af_collect.proofs.CountChanges.{counts-alone}
use Rattle.af_collect.proofs.ProcessTables.{Leaving, leaving-counted, leaving-done, leaving-down, leaving-none, leaving-past, leaving-up}
use Rattle.af_collect.proofs.tables.unref_table.Goals as goal

pub loop-number-init : goal.loop-number-init
loop-number-init c = record {
  leaving = λ w ch pid. leaving-none w pid c.args.process.now.process (length c.run_from-front.result.now) (kept_of c.args.files.now.counts ch);
  rest = refl;
}

pub drop_one-requires : goal.drop_one-requires
drop_one-requires c =
    let w = c.requires.0 in
    let ch = c.requires.1 in
    let pid = c.requires.2 in
    let n = c.loop-number.number - 1 in
    let low : n < length c.run_from-front.result.now = omega (arith, c.loop-number-test.true, c.loop-number.auto.number) in
    let left : n < c.loop-number.number = omega (arith, c.loop-number-test.true) in
    let here : n ≡ 0 + n = omega arith in
    let is = ap (map.get c.args.process.now.process.table) here ∙ c.run_from-front.ensures.«open» n low ∙ slice_get_read _ _ _ _ refl low c.index-front-number.is in
    (leaving-counted w pid c.args.process.now.process c.loop-number.number _ (kept_of c.loop-number.files.counts ch) (c.loop-number.invariant.leaving w ch pid c.requires.3 c.requires.4) n c.index-front-number.result (inl left) is).0

pub loop-number-preserved : goal.loop-number-preserved
loop-number-preserved c =
    let q = c.args.process.now.process in
    let one = c.drop_one.ensures in
    let n = c.loop-number.number - 1 in
    let end = length c.run_from-front.result.now in
    let low : n < end = omega (arith, c.loop-number-test.true, c.loop-number.auto.number) in
    let left : n < c.loop-number.number = omega (arith, c.loop-number-test.true) in
    let next : n + 1 ≡ c.loop-number.number = omega (arith, c.loop-number-test.true) in
    let here : n ≡ 0 + n = omega arith in
    let is = ap (map.get q.table) here ∙ c.run_from-front.ensures.«open» n low ∙ slice_get_read _ _ _ _ refl low c.index-front-number.is in
    record {
      leaving = λ w ch pid at exact. subst (Leaving w pid q n end) (sym (ap (λ v. kept_of v.counts ch) one)) (leaving-down w pid q c.loop-number.number end (kept_of c.loop-number.files.counts ch) (c.loop-number.invariant.leaving w ch pid at exact) n c.index-front-number.result (inl left) is low next);
      rest = counts-alone c.args.files.now _ _ _ one c.loop-number.invariant.rest;
    }

pub loop-fd-init : goal.loop-fd-init
loop-fd-init c =
    let end = length c.run_from-front.result.now in
    let all : c.loop-number.number ≡ 0 = omega (arith, c.loop-number-test.false) in
    record {
      leaving = λ w ch pid at exact. subst (λ n. Leaving w pid c.args.process.now.process n end (kept_of c.loop-number.files.counts ch)) all (c.loop-number.invariant.leaving w ch pid at exact);
      rest = c.loop-number.invariant.rest;
      low = omega (arith, c.run_from-front.ensures.low);
    }

pub drop_one-requires-in-Some : goal.drop_one-requires-in-Some
drop_one-requires-in-Some c =
    let w = c.requires.0 in
    let ch = c.requires.1 in
    let pid = c.requires.2 in
    let e = c.in-Some.ensures in
    let part = leaving-past w pid c.args.process.now.process 0 c.loop-fd.from (kept_of c.loop-fd.files.counts ch) (c.loop-fd.invariant.leaving w ch pid c.requires.3 c.requires.4) _ e.reached e.least in
    (leaving-counted w pid c.args.process.now.process 0 _ (kept_of c.loop-fd.files.counts ch) part _ _ (inr (omega arith)) e.«open»).0

pub loop-fd-preserved : goal.loop-fd-preserved
loop-fd-preserved c =
    let q = c.args.process.now.process in
    let one = c.drop_one-in-Some.ensures in
    let e = c.in-Some.ensures in
    record {
      leaving = λ w ch pid at exact.
          let part = leaving-past w pid q 0 c.loop-fd.from (kept_of c.loop-fd.files.counts ch) (c.loop-fd.invariant.leaving w ch pid at exact) _ e.reached e.least in
          subst (λ n. Leaving w pid q 0 (n + 1) (kept_of c.drop_one-in-Some.new.self.counts ch)) (sym c.fd.view_is) (subst (Leaving w pid q 0 _) (sym (ap (λ v. kept_of v.counts ch) one)) (leaving-up w pid q 0 _ (kept_of c.loop-fd.files.counts ch) part _ _ (inr (omega arith)) e.«open» (omega arith) refl));
      rest = counts-alone c.args.files.now _ _ _ one c.loop-fd.invariant.rest;
      low = omega (arith, e.low, c.fd.view_is);
    }

pub returns-clause-exact : goal.returns-clause-exact
returns-clause-exact c = λ w ch pid at exact. leaving-done w pid c.args.process.now.process c.loop-fd.from (kept_of c.loop-fd.files.counts ch) (c.loop-fd.invariant.leaving w ch pid at exact) c.in_default.ensures.none
