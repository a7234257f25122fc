-- `as_mut` lends the engine where there is one, and the handle follows it.
use Rattle.std.proofs.Common.{◌≡◌, ℕ, List, [], ◌∷◌, ◌++◌, refl, sym, ap, ◌∙◌, subst, lit<}
use seplogic.Ra.Ura.{Ura}
use mir.Syntax.{named}
use mir.Val.{Val, vptr, vcons, vnil}
use mir.Raw.{raw as bare}
use base.Fraction.{full_share}
use base.Logic.{SProp, ent, sep, emp, via, fst∗}
use base.Fml.{Lft, GName, Share, Fml, ftrue, fsep, flft, fobs, fres}
use prog.Wp.{Env, Calls, Loops, WpFn}
use prog.Model.{Model}
use types.Logic.{Logic, sem}
use types.Kit.{‵, ◌⊛◌, some, at_ret, ◌$◌, ◌∵◌, !, qed, by, move, keep, use0, use1, drop, split, join, pick, fsplit, fsplit3, fjoin, suffices, frame, done, raw, later, await, group, fpack, feq_i, rewrite}
use types.Run.{stop, fld, load, of_opd, bin, first, blocks, exec, returns, returns_within, enter, addr, lit, and_then, no_more, skips, branches}
use types.ByLocal.{alloc_all, pass_all, free_all, look_at, get, through, sets, sets_last, env}
use types.Part.{whole, sub, look_in, agg}
use types.Match.{live}
use contract.Running.{Running, tables}
use denote.Exit.{no}
use denote.RattleType.{RattleType, owns}
use denote.Memory.{part_at, mem, cell_at, part_of, lone}
use denote.RawPtr.{Ptr, block_ptr, null_ptr, ptr_val, tests_null}
use denote.Ref.{MutRef, MutBor, mut_vals, mut_Tells}
use denote.Signature.{plain, mut_ref_to}
use denote.Steps.{nothing, opens, closes}
use denote.Follow.{follows, follows_by, lends_Part}
use denote.Triple.Clauses.{Clauses}
use denote.Triple.Entry.{on_entry}
use denote.Triple.Walked.{says, Stays, stay_dropped, walk_of, ends_at, Goes-spent_ref}
use Rattle.std.proofs.alloc.Shapes.{after}
use Rattle.std.proofs.raw_atomic.Walks.{proved}
use Rattle.std.proofs.option.Made.{Some-of, none_of}
use Rattle.std.specs.Prelude.{Some, None}
use Rattle.std.specs.contracts.option.Option as option
use Rattle.std.specs.contracts.impls.GlobalAllocator.TheImpl.{ghosts}
use Rattle.af_base.specs.Pass.{Machine}
use Rattle.scm_c.specs.Lends.{with_engine}
use Rattle.scm_c.specs.contracts.handle.Handle.as_mut.{ended, clauses}
use Rattle.scm_c.specs.contracts.handle.Handle.as_mut.Key.{name as #self}
use Rattle.scm_c.proofs.Values.{both, Eng, Heap, Handle, either_held, handle_out, handle_in}
use Rattle.scm_c.proofs.handle.Handle.as_mut.Statement.{statement}
use Rattle.scm_c.proofs.handle.Handle.as_mut.Code as code

-- How the handle's reference is spent.
abbrev stayed : Stays ended.signature.params ended.kept
stayed = (stay_dropped (mut_ref_to (0 ∷ []) tt (plain (λ _. Handle))) no, tt)

module _ {M : Type 1} {𝓤 : Ura M} (𝓛 : Logic 𝓤) (𝓜 : Model 𝓤 𝓛.H) (𝓡 : Running 𝓤 𝓛.H 𝓜) (κ : Lft) (q : Share) (rb ro : ℕ) (γ : GName) (d : Handle.Denot) where
  open 𝓛 use {H, A}

  abbrev c : Clauses 𝓤 ended
  c = clauses 𝓛 𝓜.mem 𝓡.returns

  abbrev bound : (walk_of 𝓛 ended stayed c).Ghost
  bound = (((κ, tt), (q, tt), tt, (record { ref_ptr = (rb, ro); ghost_name = γ; now = d }, tt), (vptr rb ro ∷ [], tt)), tt)

  abbrev Post : Val → SProp 𝓤
  Post = (walk_of 𝓛 ended stayed c).post bound

  abbrev Lent : RattleType
  Lent = MutRef (named 0) κ Eng

  -- Without an engine the result is none, and the handle is unchanged.
  leaves : d.shown ≡ None → ent 𝓤 (sep 𝓤 (A.obs γ (Handle.coded.code d)) (A.lft κ q)) (Post (live 0 vnil))
  unfolding follows_by
  leaves es =
      qed 𝓛 (‵ (fobs γ (Handle.coded.code d)) ∷ ‵ (flft κ q) ∷ []) ∵ use1 𝓛 (‵ (fres γ (Handle.coded.code d))) (𝓛.names.obs-res γ (Handle.coded.code d)) $ move ! (1 ∷ []) $
      use0 𝓛 (‵ ((option.the_row Lent).own_val None (live 0 vnil ∷ []))) (none_of 𝓛 Lent) $
      suffices ! _ (ends_at 𝓛 ended stayed c bound (live 0 vnil) None (tt, tt) (tt, tt)) $
      nothing ! $ nothing ! $ fjoin ! $ join ! $ nothing ! $ move ! (2 ∷ 0 ∷ []) $ join ! $ join ! $ frame ! $ says ! (sym es) $ done !

  module _ (b o : ℕ) (h : Val) (at_b : d.at ≡ block_ptr b o) where
    -- All of the handle but its engine.
    abbrev Rest : Fml
    Rest = fsep (fsep (ghosts.dealloc_token d.alloc (bare (lone Eng.mir)) (block_ptr b o)) (Heap.own_val d.alloc (h ∷ []))) (cell_at full_share Handle.mir (both (vptr b o) h ∷ []) rb ro)

    -- With any engine in its place, the rest is a handle again.
    back : (w : Machine) → ent 𝓤 (sep 𝓤 (sem 𝓛 ((mem Eng).own_at w b o)) (sem 𝓛 Rest)) (sem 𝓛 ((mem Handle).own_at (with_engine d w) rb ro))
    unfolding part_of
    back w =
        qed 𝓛 (‵ (part_at Eng full_share w b o) ∷ ‵ Rest ∷ []) ∵ move ! (1 ∷ []) $ fsplit ! $ fsplit ! $ move ! (3 ∷ 0 ∷ []) $ fjoin ! $
        handle_in ! (block_ptr b o) h d.alloc (Some w) $ rewrite ! 0 (λ (p : Ptr). ‵ (Handle.own_val (record { at = p; alloc = d.alloc; shown = Some w }) (both (vptr b o) h ∷ []))) (sym at_b) refl $
        move ! (1 ∷ 0 ∷ []) $ fjoin ! $ fpack ! (List Val) (λ us. fsep (cell_at full_share Handle.mir us rb ro) (Handle.own_val (with_engine d w) us)) (both (vptr b o) h ∷ []) $ done !

    -- The result is a reference to the engine, and the handle follows it.
    exits : (x : Machine) → d.shown ≡ Some x → (γ' : GName)
        → ent 𝓤 (sep 𝓤 (sem 𝓛 (Lent.own_val (record { ref_ptr = (b, o); ghost_name = γ'; now = x }) (vptr b o ∷ []))) (sep 𝓤 (A.lft κ q) (sem 𝓛 (follows Handle Eng γ γ' (with_engine d))))) (Post (live 1 (vcons (vptr b o) vnil)))
    unfolding follows_by
    exits x es γ' =
        let r : MutBor Machine = record { ref_ptr = (b, o); ghost_name = γ'; now = x } in let v : Val = live 1 (vcons (vptr b o) vnil) in
        qed 𝓛 (‵ (Lent.own_val r (vptr b o ∷ [])) ∷ ‵ (flft κ q) ∷ ‵ (follows Handle Eng γ γ' (with_engine d)) ∷ []) ∵
        use1 𝓛 (‵ ((option.the_row Lent).own_val (Some r) (v ∷ []))) (Some-of 𝓛 Lent r (vptr b o)) $
        suffices ! _ (ends_at 𝓛 ended stayed c bound v (Some r) (tt, tt) (tt, tt)) $
        nothing ! $ nothing ! $ fjoin ! $ join ! $ nothing ! $ move ! (2 ∷ 0 ∷ []) $ join ! $ join ! $ frame ! $ says ! (sym es) $ done !

  module _ (C : Calls 𝓤 H) (Λ : Loops 𝓤 H) where
    -- The body, from a reference to a handle on.
    walk : ent 𝓤 (on_entry 𝓛 ended.signature bound.0.0 bound.0.1 bound.0.3 bound.0.4) (WpFn 𝓤 H C Λ code.function (vptr rb ro ∷ []) Post)
    walk =
        let fn = code.function in let a = d.alloc in
        qed 𝓛 ((‵ (flft κ q) ⊛ ‵ ftrue) ∷ ‵ (owns (MutRef (named 0) κ Handle ∷ []) bound.0.3 bound.0.4) ∷ []) ∵
        enter ! C Λ fn (vptr rb ro ∷ []) _ $ alloc_all ! (λ l. pass_all ! refl ((tt, tt), tt) $ let En : Env 𝓤 H = env fn.locals l in
        move ! (1 ∷ []) $ fsplit ! $ fsplit3 ! $ drop ! $ move ! (3 ∷ []) $ split ! $ move ! (2 ∷ 3 ∷ 0 ∷ []) $
        opens ! tt Handle {h = d} rb ro (λ vs. move ! (1 ∷ []) $ handle_out ! d vs (λ h ws fits. either_held ! a d.at d.shown
        (λ es ep. let told : vs ≡ both (ptr_val null_ptr) h ∷ [] = ws ∙ ap (λ (p : Ptr). both (ptr_val p) h ∷ []) ep in
        rewrite ! 1 (λ (us : List Val). ‵ (cell_at full_share Handle.mir us rb ro)) told refl $
        sets ! (of_opd ! (load ! (through ! refl (fld ! refl (stop !))) (look_in ! 1 (sub ! 0 refl (whole !))))) refl (tt, record { fits = lit< tt }) $
        sets ! (of_opd ! (get ! refl)) refl (tt, record { fits = lit< tt }) $ sets ! (bin ! (get ! refl) (lit ! tt) tt) refl (tt, tt) $ first ! $ branches ! (get ! refl)
        (λ _. sets ! (agg ! (and_then ! (lit ! tt) (no_more !))) refl (tt, (record { fits = lit< tt }, tt)) $
        feq_i ! Ptr null_ptr null_ptr refl $ handle_in ! null_ptr h a None $ move ! (1 ∷ 0 ∷ []) $
        closes ! tt Handle (record { at = null_ptr; alloc = a; shown = None }) (both (ptr_val null_ptr) h ∷ []) rb ro $
        rewrite ! 0 (λ (e : Handle.Denot). ‵ (fobs γ (Handle.coded.code e))) (λ i. record { at = sym ep i; alloc = a; shown = sym es i }) refl $
        returns_within ! Post refl (look_at ! 0 refl) $ free_all ! refl $ keep ! (0 ∷ 2 ∷ []) $ by ! (leaves es)) (λ wrong. absurd wrong))
        (λ b o x es ep t. let told : vs ≡ both (vptr b o) h ∷ [] = ws ∙ ap (λ (p : Ptr). both (ptr_val p) h ∷ []) ep in
        rewrite ! 2 (λ (us : List Val). ‵ (cell_at full_share Handle.mir us rb ro)) told refl $
        sets ! (of_opd ! (load ! (through ! refl (fld ! refl (stop !))) (look_in ! 2 (sub ! 0 refl (whole !))))) refl (tt, tt) $
        sets ! (of_opd ! (get ! refl)) refl (tt, tt) $ sets ! (bin ! (get ! refl) (lit ! tt) (tests_null (block_ptr b o) t)) refl (tt, tt) $ first ! $ branches ! (get ! refl) (λ wrong. absurd wrong) (λ _.
        skips ! $ exec ! C Λ En (after 4 fn.body) (at_ret En Post) $ first ! $ blocks ! $ sets ! (of_opd ! (get ! refl)) refl (tt, tt) $ sets ! (of_opd ! (get ! refl)) refl (tt, tt) $
        sets_last ! (addr ! (through ! refl (stop !))) refl (tt, tt) $ exec ! C Λ En (after 5 fn.body) (at_ret En Post) $ sets ! (of_opd ! (get ! refl)) refl (tt, tt) $
        sets ! (agg ! (and_then ! (lit ! tt) (and_then ! (get ! refl) (no_more !)))) refl (tt, (record { fits = lit< tt }, (tt, tt))) $
        fsplit ! $ move ! (1 ∷ 2 ∷ []) $ fjoin ! $ move ! (0 ∷ 2 ∷ []) $ fjoin ! $ move ! (2 ∷ 3 ∷ 4 ∷ 1 ∷ 0 ∷ []) $ group ! 5 $
        use1 𝓛 (later (some (λ (γ' : GName). ‵ (Lent.own_val (record { ref_ptr = (b, o); ghost_name = γ'; now = x }) (vptr b o ∷ [])) ⊛ ‵ (flft κ q) ⊛ ‵ (follows Handle Eng γ γ' (with_engine d)))))
        (lends_Part 𝓛 Handle Eng (with_engine d) (named 0) κ q rb ro b o γ (sem 𝓛 (Rest b o h ep)) (back b o h ep) (Handle.coded.code d) (Handle.coded.code d) x) $ await ! tt $ pick ! (λ γ'.
        returns ! (look_at ! 0 refl) $ free_all ! refl $ keep ! (0 ∷ []) $ by ! (exits b o h ep x es γ')))))))

-- The body meets its contract: it lends the engine that the handle shows, or returns none for null.
pub as_mut_spec : {M : Type 1} → statement M
as_mut_spec 𝓤 𝓛 𝓜 𝓡 wired =
    let 𝓣 = tables 𝓤 𝓛.H 𝓜 𝓡 𝓡.env in
    proved 𝓛 ended stayed (clauses 𝓛 𝓜.mem 𝓡.returns) 𝓜 𝓡 (Goes-spent_ref 𝓛 1 (0 ∷ []) tt (plain (λ _. Handle)), tt) #self code.function (code.unfolded 𝓤 𝓛.H 𝓜 𝓡 wired)
    (λ κs. (mut_vals, tt)) (λ κs. (mut_Tells (named 0) κs.0 Handle, tt))
    (λ κs qs bounds a g are. via 𝓤 _ (fst∗ 𝓤 _ (emp 𝓤)) (walk 𝓛 𝓜 𝓡 κs.0 qs.0 a.0.ref_ptr.0 a.0.ref_ptr.1 a.0.ghost_name a.0.now 𝓣.C 𝓣.Λ))
