-- The state of each socket fits its type, and each target is a number that was given.
use Rattle.std.proofs.Common.{◌≡◌, ◌<◌, ◌≤◌, ℕ, ◌+◌, Bool, true, false, inl, inr, refl, sym, ap, ◌∙◌, subst, cond, arith}
use Rattle.std.specs.Prelude.{Option, Some, None, not}
use Rattle.std.specs.Option.{option_and_then, option_map_or}
use Rattle.std.specs.FinMap as map
use Rattle.std.proofs.lemmas.Bool.{false≢true}
use Rattle.af_base.specs.declared.events.SockType.{SockType}
use Rattle.af_base.specs.declared.events.State.{State}
use Rattle.af_base.specs.declared.events.State.TheVariants as state
use Rattle.af_base.specs.World.{AsSocket, File, Plain, Socket, World}
use Rattle.af_base.specs.Changes.{add_file, file_with, with_socket}
use Rattle.af_base.specs.Refusals.{is_datagram, socket_at, socket_of}
use Rattle.af_base.specs.Unheld.{file_without, state_without, without}
use Rattle.af_base.specs.Whole.{AreTargets, IsWhole, fits_type, state_of}
use Rattle.af_base.proofs.FreedCounts.{without-was}
use Rattle.af_base.proofs.Lookups.{changed-was, insert-here, insert-other, none_some, same_or_not, some_same}

-- Whether there is a target.
abbrev pub has_target : State → Bool
has_target state.Idle = false
has_target (state.Listening b) = false
has_target (state.Connected q) = false
has_target state.HungUp = false
has_target (state.Sends q) = true

-- The target, or another number.
abbrev pub target_or : ℕ → State → ℕ
target_or d state.Idle = d
target_or d (state.Listening b) = d
target_or d (state.Connected q) = d
target_or d state.HungUp = d
target_or d (state.Sends q) = q

-- A state without a target sends nowhere.
pub not_sending : {A : Type 0} (t : State) (q : ℕ) → has_target t ≡ false → t ≡ state.Sends q → A
not_sending t q e is = absurd (false≢true (sym e ∙ ap has_target is))

-- A file that has a target after others are freed had it before.
pub still_sending : (gone : ℕ → Bool) (t : State) (q : ℕ) → state_without gone t ≡ state.Sends q
    → t ≡ state.Sends q
still_sending gone state.Idle q e = e
still_sending gone (state.Listening b) q e = e
still_sending gone (state.Connected p) q e = by (gone p) e where
  by : (b : Bool) → cond b state.HungUp (state.Connected p) ≡ state.Sends q → state.Connected p
      ≡ state.Sends q
  by true k = not_sending state.HungUp q refl k
  by false k = k
still_sending gone state.HungUp q e = e
still_sending gone (state.Sends p) q e = e

-- A state that fits a type fits it after others are freed.
still_fits : (gone : ℕ → Bool) (kind : SockType) (t : State)
    → fits_type kind (state_without gone t) ≡ fits_type kind t
still_fits gone kind state.Idle = refl
still_fits gone kind (state.Listening b) = refl
still_fits gone kind (state.Connected p) =
    elim (gone p) as (λ b. fits_type kind (cond b state.HungUp (state.Connected p))
    ≡ not (is_datagram kind)) [ true ↦ refl | false ↦ refl ]
still_fits gone kind state.HungUp = refl
still_fits gone kind (state.Sends q) = refl

-- Whether the state of a file fits its type; a plain file has none.
abbrev pub fits_file : File → Bool
fits_file Plain = true
fits_file (AsSocket s) = fits_type s.kind s.state

-- The state of a file fits its type, and its target is a number below n.
pub record IsTyped (n : ℕ) (x : File) : Type 0 where
  pub fits : fits_file x ≡ true
  pub target : (q : ℕ) → state_of x ≡ state.Sends q → (0 < q) × (q < n)

-- Each file is such a one.
abbrev pub AreTyped : World → Type 0
AreTyped w = (f : ℕ) (x : File) → map.get w.files f ≡ Some x → IsTyped w.next_ino x

-- The files of a whole world.
pub typed-whole : {w : World} → IsWhole w → AreTyped w
typed-whole {w = w} k f x is =
    record {
      fits = by x is;
      target =
          λ q e. k.targets f q (ap (λ o. option_map_or state_of o state.Idle) is ∙ e);
    } where
      by : (x : File) → map.get w.files f ≡ Some x → fits_file x ≡ true
      by Plain e = refl
      by (AsSocket s) e = k.types f s (ap (option_and_then socket_of) e)

-- Then each target is a number that was given.
pub targets-typed : (w : World) → AreTyped w → AreTargets w
targets-typed w typed f q = by (map.get w.files f) refl where
  by : (o : Option File) → map.get w.files f ≡ o → option_map_or state_of o state.Idle
      ≡ state.Sends q → (0 < q) × (q < w.next_ino)
  by None is e = not_sending state.Idle q refl e
  by (Some x) is e = (typed f x is).target q e

-- And the state of each socket fits its type.
pub types-typed : (w : World) → AreTyped w → (f : ℕ) (s : Socket) → socket_at w f ≡ Some s
    → fits_type s.kind s.state ≡ true
types-typed w typed f s = by (map.get w.files f) refl where
  by : (o : Option File) → map.get w.files f ≡ o → option_and_then socket_of o ≡ Some s
      → fits_type s.kind s.state ≡ true
  by None is e = absurd (none_some s e)
  by (Some Plain) is e = absurd (none_some s e)
  by (Some (AsSocket t)) is e = ap (λ y. fits_type y.kind y.state) (sym (some_same t s e))
      ∙ (typed f (AsSocket t) is).fits

-- A file of the same type and state.
pub typed-like : {n : ℕ} (x y : File) → fits_file y ≡ fits_file x → state_of y ≡ state_of x
    → IsTyped n x → IsTyped n y
typed-like x y fits talk k =
    record { fits = fits ∙ k.fits; target = λ q e. k.target q (sym talk ∙ e) }

-- A file among more numbers.
pub typed-more : {n m : ℕ} (x : File) → n ≤ m → IsTyped n x → IsTyped m x
typed-more x le k = record {
  fits = k.fits;
  target = λ q e. let at = k.target q e in
      (at.0, omega (arith, at.1, le));
}

-- A file without a target, whose state fits its type.
pub typed-aimless : {n : ℕ} (x : File) → fits_file x ≡ true → has_target (state_of x) ≡ false
    → IsTyped n x
typed-aimless x fits none =
    record { fits = fits; target = λ q e. not_sending (state_of x) q none e }

-- A file without a connection.
pub typed-idle : {n : ℕ} (x : File) → state_of x ≡ state.Idle → IsTyped n x
typed-idle x idle = typed-aimless x (by x idle) (ap has_target idle) where
  by : (x : File) → state_of x ≡ state.Idle → fits_file x ≡ true
  by Plain e = refl
  by (AsSocket s) e = ap (fits_type s.kind) e

-- Without some files.
pub typed-without : (gone : ℕ → Bool) (w : World) → AreTyped w → AreTyped (without gone w)
typed-without gone w typed f y is =
    let was = without-was gone w f y is in
    subst (IsTyped w.next_ino) was.3 (by was.0 (typed f was.0 was.1)) where
      by : (x : File) → IsTyped w.next_ino x → IsTyped w.next_ino (file_without gone x)
      by Plain k = k
      by (AsSocket s) k = record {
        fits = still_fits gone s.kind s.state ∙ k.fits;
        target =
            λ q e. k.target q (still_sending gone s.state q e);
      }

-- A socket changed to one whose state fits its type.
pub typed-changed : (w : World) (s : ℕ) (g : Socket → Socket)
    → ((x : Socket) → map.get w.files s ≡ Some (AsSocket x) → IsTyped w.next_ino (AsSocket x)
    → IsTyped w.next_ino (AsSocket (g x))) → AreTyped w → AreTyped (with_socket w s g)
typed-changed w s g fits typed f y is =
    let was = changed-was (file_with g) w.files s f y is in
    elim was.2 [
      | inl z ↦ subst (IsTyped w.next_ino) (sym z.1) (by was.0 (ap (map.get w.files) (sym z.0) ∙ was.1) (typed f was.0 was.1))
      | inr z ↦ subst (IsTyped w.next_ino) (sym z) (typed f was.0 was.1)
    ] where
      by : (x : File) → map.get w.files s ≡ Some x → IsTyped w.next_ino x
          → IsTyped w.next_ino (file_with g x)
      by Plain e k = k
      by (AsSocket x) e k = fits x e k

-- A socket changed in neither its type nor its state.
pub typed-same : (w : World) (s : ℕ) (g : Socket → Socket)
    → ((x : Socket) → (g x).state ≡ x.state) → ((x : Socket) → (g x).kind ≡ x.kind) → AreTyped w
    → AreTyped (with_socket w s g)
typed-same w s g state kind =
    typed-changed w s g (λ x is k. typed-like (AsSocket x) (AsSocket (g x))
    (λ i. fits_type (kind x i) (state x i)) (state x) k)

-- A file more whose state fits its type.
pub typed-added : (w : World) (x : File) → IsTyped (w.next_ino + 1) x → AreTyped w
    → AreTyped (add_file w x)
typed-added w x fits typed f y is = elim (same_or_not f w.next_ino) [
  | inl same ↦ subst (IsTyped (w.next_ino + 1)) (some_same x y (sym (insert-here w.files w.next_ino x) ∙ ap (map.get (map.insert w.files w.next_ino x)) (sym same) ∙ is)) fits
  | inr apart ↦ typed-more y (omega arith) (typed f y (sym (insert-other w.files w.next_ino x f apart) ∙ is))
]
