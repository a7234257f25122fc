use Rattle.std.proofs.Common.{rules, ◌≡◌, ℕ, [], ◌∙◌, ap, subst, sym}
use Rattle.std.specs.Prelude.{IfOk}
use Rattle.jaywardrobe.specs.Counts.{count_in, refs}
use Rattle.jaywardrobe.specs.Listing.{files_of, listed, processes_of}
use Rattle.jaywardrobe.specs.World.{World}
use Rattle.jaywardrobe.proofs.Bare.{refs-bare}
use Rattle.examples.specs.Places.{referred_files}
use Rattle.examples.proofs.audit.places.places_of.Goals as goal

-- The listing counts what the engine's world counts.
pub returns : goal.returns
returns c =
    let l = c.in_ok-listing.listing in
    let world = c.args.engine.now.world in
    let tables = c.tables.result.now in
    let files = c.files.result.now in
    let processes : processes_of tables ≡ l.processes = search rules in
    let live : files_of files ≡ l.files = search rules in
    let same : (f : ℕ) → refs (listed tables files) f ≡ refs world f = λ f.
    (λ i. refs (record { processes = processes i; files = live i; next_ino = 0; next_pid = 0; users = [] }) f) ∙ ap (λ (w : World). refs w f) c.in_ok-listing.ensures ∙ refs-bare world f in
    subst (λ (count : ℕ → ℕ). IfOk c.gather.result (λ ps. (f : ℕ) → count_in f (referred_files ps.items) ≡ count f)) (λ i f. same f i) c.gather.ensures
