-- `into_raw` tests the pointer, and gives it its type again.
use Rattle.std.proofs.Common.{◌≡◌, List, [], ◌∷◌, ◌++◌, refl, sym, ap, ◌∙◌, subst, lit<}
use mir.Val.{Val, vptr, vcons, vnil}
use base.Logic.{SProp, ent, emp, id⊢}
use base.Fml.{ftrue}
use prog.Wp.{WpFn}
use types.Kit.{‵, raw, ◌⊛◌, at_ret, ◌$◌, ◌∵◌, !, qed, by, move, keep, split, fsplit, fjoin, suffices, use0, use1}
use types.Run.{stop, fld, lit, of_opd, bin, no_more, and_then, first, branches, exec, returns, enter}
use types.ByLocal.{alloc_all, pass_all, free_all, look_at, get, get_in, sets, sets_last, env}
use types.Part.{agg, sub, whole}
use types.Match.{live}
use contract.Monad.{fact, fact_i}
use contract.Running.{tables}
use denote.Exit.{yes}
use denote.RattleType.{RattleType, owns}
use denote.Signature.{type_at, plain}
use denote.RawPtr.{Ptr, block_ptr, null_ptr, ptr_val, tests_null}
use denote.Steps.{nothing}
use denote.Param.{layout}
use denote.Triple.Walked.{Stays, stay_dropped, walk_of, Goes-dropped}
use Rattle.std.proofs.alloc.Shapes.{after}
use Rattle.std.proofs.cell.Inside.{Good}
use Rattle.std.proofs.ResultValues.{and_tt}
use Rattle.std.proofs.raw_atomic.Walks.{proved_at, leaves}
use Rattle.std.specs.Prelude.{Some, None}
use Rattle.std.specs.contracts.impls.GlobalAllocator.TheImpl.{ghosts}
use Rattle.scm_c.proofs.Values.{both, RawBox, loose_good, loose_in, Eng, Heap, HeapLaws, Handle, either_held, handle_out, null_good}
use Rattle.scm_c.specs.contracts.handle.Handle.into_raw.{ended, clauses}
use Rattle.scm_c.specs.contracts.handle.Handle.into_raw.Key.{name as #self}
use Rattle.scm_c.proofs.handle.Handle.into_raw.Statement.{statement}
use Rattle.scm_c.proofs.handle.Handle.into_raw.Code as code
use Rattle.std.proofs.option.Made.{Some-of, none_of}

-- The body meets its contract: it returns the engine that the handle shows, or none for null.
pub into_raw_spec : {M : Type 1} → statement M
into_raw_spec 𝓤 𝓛 𝓜 𝓡 wired =
    let H = 𝓛.H in let 𝓣 = tables 𝓤 H 𝓜 𝓡 𝓡.env in let En = ended in let c = clauses 𝓛 𝓜.mem 𝓡.returns in let fn = code.function in let P : RattleType = Handle in
    let hs : Stays En.signature.params En.kept = (stay_dropped (plain (λ _. P)) yes, tt) in
    proved_at 𝓛 En hs c 𝓜 𝓡 (Goes-dropped 𝓛 0 (plain (λ _. P)) yes (λ κs x f. refl), tt) #self fn (code.unfolded 𝓤 H 𝓜 𝓡 wired) (λ z are.
    let κs = z.0.0 in let v = z.0.3.0 in let Post : Val → SProp 𝓤 = (walk_of 𝓛 En hs c).post z in let Run : List Val → SProp 𝓤 = λ ws. WpFn 𝓤 H 𝓣.C 𝓣.Λ fn ws Post in
    qed 𝓛 ((‵ ftrue ⊛ ‵ (owns (P ∷ []) (v, tt) z.0.4)) ∷ raw ((c κs z.0.3).requires z.1) ∷ []) ∵ split ! $ move ! (1 ∷ []) $ fsplit ! $
    handle_out ! v z.0.4.0 (λ h ws fits. let a = v.alloc in let Lr : RattleType = RawBox Eng Heap HeapLaws ghosts in let Out : RattleType = type_at En.signature.result κs in
    either_held ! a v.at v.shown
    (λ es ep. let w : Val = both (ptr_val null_ptr) h in let typed = null_good h fits in let told : z.0.4.0 ≡ w ∷ [] = ws ∙ ap (λ (p : Ptr). both (ptr_val p) h ∷ []) ep in
    suffices ! (Run (w ∷ [])) (subst (λ (us : List Val). ent 𝓤 (Run (w ∷ [])) (Run us)) (sym (λ i. told i ++ [])) (id⊢ 𝓤 (Run (w ∷ [])))) $
    enter ! 𝓣.C 𝓣.Λ fn (w ∷ []) Post $ alloc_all ! (λ l. pass_all ! refl (typed, tt) $ let Ev = env fn.locals l in let Says : Type 0 = None ≡ v.shown in
    sets ! (of_opd ! (get_in ! (fld ! refl (stop !)) (sub ! 0 refl (whole !)))) refl (tt, record { fits = lit< tt }) $ sets ! (of_opd ! (get_in ! (fld ! refl (stop !)) (sub ! 1 refl (whole !)))) refl fits $
    sets ! (bin ! (get ! refl) (lit ! tt) tt) refl (tt, tt) $ first ! $ branches ! (get ! refl)
    (λ _. sets_last ! (agg ! (and_then ! (lit ! tt) (no_more !))) refl (tt, (record { fits = lit< tt }, tt)) $ exec ! 𝓣.C 𝓣.Λ Ev (after 4 fn.body) (at_ret Ev Post) $ sets ! (of_opd ! (get ! refl)) refl (tt, (record { fits = lit< tt }, tt)) $
    use0 𝓛 (‵ (Out.own_val None (live 0 vnil ∷ []))) (none_of 𝓛 Lr) $
    use0 𝓛 (raw (fact 𝓤 Says)) (fact_i 𝓤 Says (emp 𝓤) (sym es)) $ nothing ! $ nothing ! $ fjoin ! $
    returns ! (look_at ! 0 refl) $ free_all ! refl $ keep ! (5 ∷ 0 ∷ 2 ∷ 1 ∷ []) $ by ! (leaves 𝓛 En hs c z (live 0 vnil) None (tt, tt) (tt, tt))) (λ wrong. absurd wrong)))
    (λ b o x es ep t. let w : Val = both (vptr b o) h in let typed = loose_good Eng Heap HeapLaws ghosts b o h fits in let told : z.0.4.0 ≡ w ∷ [] = ws ∙ ap (λ (p : Ptr). both (ptr_val p) h ∷ []) ep in
    suffices ! (Run (w ∷ [])) (subst (λ (us : List Val). ent 𝓤 (Run (w ∷ [])) (Run us)) (sym (λ i. told i ++ [])) (id⊢ 𝓤 (Run (w ∷ [])))) $
    enter ! 𝓣.C 𝓣.Λ fn (w ∷ []) Post $ alloc_all ! (λ l. pass_all ! refl (typed, tt) $ let Ev = env fn.locals l in let Says : Type 0 = Some x ≡ v.shown in
    let v₁ : Val = live 1 (vcons w vnil) in let d : Lr.Denot = record { at = block_ptr b o; alloc = a; value = x } in let good : Good (layout Out) v₁ = (and_tt _ typed.0, (record { fits = lit< tt }, (typed.1, tt))) in
    sets ! (of_opd ! (get_in ! (fld ! refl (stop !)) (sub ! 0 refl (whole !)))) refl (tt, tt) $ sets ! (of_opd ! (get_in ! (fld ! refl (stop !)) (sub ! 1 refl (whole !)))) refl fits $
    sets ! (bin ! (get ! refl) (lit ! tt) (tests_null (block_ptr b o) t)) refl (tt, tt) $ first ! $ branches ! (get ! refl) (λ wrong. absurd wrong) (λ _.
    sets ! (of_opd ! (get ! refl)) refl (tt, tt) $ sets ! (agg ! (and_then ! (get ! refl) (and_then ! (get ! refl) (no_more !)))) refl typed $
    sets_last ! (agg ! (and_then ! (lit ! tt) (and_then ! (get ! refl) (no_more !)))) refl good $
    exec ! 𝓣.C 𝓣.Λ Ev (after 4 fn.body) (at_ret Ev Post) $ sets ! (of_opd ! (get ! refl)) refl good $
    loose_in Eng Heap HeapLaws ghosts ! b o h a x $
    use1 𝓛 (‵ (Out.own_val (Some d) (v₁ ∷ []))) (Some-of 𝓛 Lr d w) $
    use0 𝓛 (raw (fact 𝓤 Says)) (fact_i 𝓤 Says (emp 𝓤) (sym es)) $ nothing ! $ nothing ! $ fjoin ! $
    returns ! (look_at ! 0 refl) $ free_all ! refl $ keep ! (4 ∷ 0 ∷ 2 ∷ 1 ∷ []) $ by ! (leaves 𝓛 En hs c z v₁ (Some d) (tt, tt) (tt, tt)))))))
