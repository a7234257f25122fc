-- The picture says what a view or a listing shows.
use Rattle.std.proofs.Common.{◌≡◌, ℕ, List, [], ◌++◌, map, refl, sym, ap, ◌∙◌}
use Rattle.std.specs.Prelude.{Some, None}
use Rattle.std.specs.List.{flat_map}
use Rattle.std.specs.List.Sorted.{IsStrictlyIncreasing}
use Rattle.std.specs.Option.{option_map_or}
use Rattle.std.specs.FinMap as finmap
use Rattle.std.proofs.lemmas.List.Folds.{flat_map-map}
use Rattle.af_base.specs.Bare.{bare, bare_file, bare_message, bare_process}
use Rattle.af_base.specs.Listing.{AreFiles, AreTables, IsRisingTable, file_of, files_of, keyed, message_of, process_of, processes_of, socket_of}
use Rattle.af_base.specs.Unheld.{map_entries}
use Rattle.af_base.specs.Whole.{name_at}
use Rattle.af_base.specs.World.{AsSocket, File, Map, Plain, Process, World}
use Rattle.af_base.specs.declared.listing.ListedFile.{ListedFile}
use Rattle.af_base.specs.declared.listing.ListedSocket.{ListedSocket}
use Rattle.af_base.specs.declared.listing.ListedTable.{ListedTable}
use Rattle.af_base.proofs.MapsOfLists.{keyed-entries}
use Rattle.af_base.proofs.PlainLists.{changed, keyed-changed, keys-rise}
use Rattle.af_report.specs.Graph.{box_text, contents_text, embryo_text, message_text, socket_name, descriptor_text, process_text}

-- The name of a live file.
pub name_at-socket_name : (w : World) (f : ℕ) (x : File) → finmap.get w.files f ≡ Some x → name_at w f ≡ socket_name x
name_at-socket_name w f Plain at = rw at refl
name_at-socket_name w f (AsSocket s) at = rw at refl

-- ---- a map that is shown as a list

-- A text over the entries of a map that a list makes, in the words of the list.
pub keyed-text : {A X : Type 0} (key : A → ℕ) (value : A → X) (F : ℕ × X → List ℕ) (xs : List A) → IsStrictlyIncreasing (map key xs)
    → flat_map F (finmap.entries (keyed key value xs)) ≡ flat_map (λ x. F (key x, value x)) xs
keyed-text key value F xs rise = ap (flat_map F) (keyed-entries key value xs rise) ∙ flat_map-map F (λ x. (key x, value x)) xs

-- A text that says the same of each value when it is changed says the same of a map whose values
-- are changed.
changed-text : {X : Type 0} (g : X → X) (F : ℕ × X → List ℕ) → ((e : ℕ × X) → F (changed g e) ≡ F e) → (m : Map X)
    → flat_map F (finmap.entries (map_entries (λ _. g) (finmap.entries m))) ≡ flat_map F (finmap.entries m)
changed-text g F same m =
    let es = finmap.entries m in
    ap (λ k. flat_map F (finmap.entries k)) (sym (keyed-changed (λ e. e.0) (λ e. g e.1) g es m refl))
    ∙ keyed-text (λ e. e.0) (λ e. g e.1) F es (keys-rise (λ e. e.0) (λ e. g e.1) g es m refl)
    ∙ (λ i. flat_map (λ e. same e i) es)

-- ---- processes

-- The text of a process that is listed.
pub process-listed : (t : ListedTable) → IsRisingTable t → process_text t.pid (process_of t) ≡ box_text t.pid ++ flat_map (λ n. descriptor_text t.pid n.fd n.ino) t.numbers.items
process-listed t rise = ap (λ rest. box_text t.pid ++ rest) (keyed-text (λ n. n.fd) (λ n. n.ino) (λ e. descriptor_text t.pid e.0 e.1) t.numbers.items rise)

-- The text of all processes of a world that is listed bare.
pub processes-listed : (w seen : World) (tables : List ListedTable) → seen ≡ bare w → seen.processes ≡ processes_of tables → AreTables tables
    → flat_map (λ t. process_text t.pid (process_of t)) tables ≡ flat_map (λ e. process_text e.0 e.1) (finmap.entries w.processes)
processes-listed w seen tables shows value ordered =
    let text : ℕ × Process → List ℕ = λ e. process_text e.0 e.1 in
    sym (keyed-text (λ t. t.pid) process_of text tables ordered.pids)
    ∙ ap (λ m. flat_map text (finmap.entries m)) (sym value ∙ ap (λ v. v.processes) shows)
    ∙ changed-text bare_process text (λ e. refl) w.processes

-- ---- what waits

-- The contents of a bare file are those of the file.
waiting-bare : (f : ℕ) (x : File) → contents_text f (bare_file x) ≡ contents_text f x
waiting-bare f Plain = refl
waiting-bare f (AsSocket s) = ap (λ text. text ++ flat_map (embryo_text f) s.backlog) (flat_map-map (message_text f) bare_message s.queue)

-- The contents of a listed file: a plain one has none.
pub plain-listed : (x : ListedFile) → x.socket ≡ None → contents_text x.ino (file_of x) ≡ []
plain-listed x is = ap (λ o. contents_text x.ino (option_map_or (λ s. AsSocket (socket_of s)) o Plain)) is

-- At a socket what is in its lists.
pub socket-listed : (x : ListedFile) (s : ListedSocket) → x.socket ≡ Some s
    → contents_text x.ino (file_of x) ≡ flat_map (λ m. message_text x.ino (message_of m)) s.queue.items ++ flat_map (embryo_text x.ino) s.backlog.items
socket-listed x s is =
    ap (λ o. contents_text x.ino (option_map_or (λ s. AsSocket (socket_of s)) o Plain)) is
    ∙ ap (λ text. text ++ flat_map (embryo_text x.ino) s.backlog.items) (flat_map-map (message_text x.ino) message_of s.queue.items)

-- The contents of all files of a world that is listed bare.
pub waiting-listed : (w seen : World) (files : List ListedFile) → seen ≡ bare w → seen.files ≡ files_of files → AreFiles files
    → flat_map (λ x. contents_text x.ino (file_of x)) files ≡ flat_map (λ e. contents_text e.0 e.1) (finmap.entries w.files)
waiting-listed w seen files shows value ordered =
    let text : ℕ × File → List ℕ = λ e. contents_text e.0 e.1 in
    sym (keyed-text (λ x. x.ino) file_of text files ordered.inos)
    ∙ ap (λ m. flat_map text (finmap.entries m)) (sym value ∙ ap (λ v. v.files) shows)
    ∙ changed-text bare_file text (λ e. waiting-bare e.0 e.1) w.files
