-- The text of a picture: a world in the language of Graphviz. Definitions that name no manual page
-- are of this project's profile (docs/PROFILE.md).
use Rattle.std.specs.Prelude.{◌≡◌, ℕ, Bool, true, false, List, [], ◌++◌, Option, Some, None, codes, nat_eq}
use Rattle.std.specs.List.{flat_map, list_any}
use Rattle.std.specs.FinMap as map
use Rattle.std.specs.Fmt.{decimal}
use Rattle.af_base.specs.Counts.{inflight, refs}
use Rattle.af_base.specs.Places.{backlog_of, queue_of}
use Rattle.af_base.specs.Reached.{Garbage}
use Rattle.af_base.specs.World.{AsSocket, File, Message, Plain, Process, World}
use Rattle.af_base.specs.declared.events.State.{State}
use Rattle.af_base.specs.declared.events.State.TheVariants as state
use Rattle.af_plain.specs.Marking.{IsListOf}
use Rattle.af_report.specs.Table.{state_word, type_word}
use Rattle.af_report.specs.Quoted.{quoted}

-- ---- processes

-- A descriptor of a process: an edge to its file (open(2)).
abbrev pub descriptor_text : ℕ → ℕ → ℕ → List ℕ
descriptor_text p n f = codes "p" ++ (decimal p
    ++ (codes " -> f" ++ (decimal f ++ (codes " [label=\"" ++ (decimal n ++ codes "\"]\n")))))

-- A process: a box.
abbrev pub box_text : ℕ → List ℕ
box_text p = codes "p"
    ++ (decimal p ++ (codes " [shape=box, label=\"process " ++ (decimal p ++ codes "\"]\n")))

-- A process, and its numbers.
abbrev pub process_text : ℕ → Process → List ℕ
process_text p q = box_text p ++ flat_map (λ e. descriptor_text p e.0 e.1) (map.entries q.table)

-- ---- files

-- An edge from one file to another, and its look.
abbrev pub edge_text : ℕ → ℕ → List ℕ → List ℕ
edge_text f g look = codes "f" ++ (decimal f ++ (codes " -> f" ++ (decimal g ++ look)))

-- The kind of a file, and its state, if it is a socket.
abbrev pub kind_text : File → List ℕ
kind_text Plain = codes "plain"
kind_text (AsSocket s) = type_word s.kind ++ (codes " " ++ state_word s.state)

-- The two counts of a file, on a line of their own.
abbrev pub counts_text : ℕ → ℕ → List ℕ
counts_text refs inflight =
    codes "\\nrefs " ++ (decimal refs ++ (codes " inflight " ++ decimal inflight))

-- A name on a line of its own, behind `@`.
abbrev pub name_line : Option (List ℕ) → List ℕ
name_line None = []
name_line (Some name) = codes "\\n@" ++ quoted name

-- The abstract name of a file, if it has one.
abbrev pub socket_name : File → Option (List ℕ)
socket_name Plain = None
socket_name (AsSocket s) = s.name

-- Garbage has a colour of its own.
abbrev pub colour : Bool → List ℕ
colour true = codes ", style=filled, fillcolor=pink"
colour false = []

-- A file: its number, what it is, its two counts, and its name.
abbrev pub node_text : World → Bool → ℕ → File → List ℕ
node_text w is_garbage f x =
    codes "f" ++ (decimal f ++ (codes " [label=\"" ++ (decimal f ++ codes " ")))
    ++ (kind_text x ++ (counts_text (refs w f) (inflight w f)
    ++ (name_line (socket_name x) ++ (codes "\"" ++ (colour is_garbage ++ codes "]\n")))))

-- An edge to the peer of a connected socket; a target has none.
abbrev pub peer_text : ℕ → State → List ℕ
peer_text f state.Idle = []
peer_text f (state.Listening most) = []
peer_text f (state.Connected peer) = edge_text f peer (codes " [style=dotted]\n")
peer_text f state.HungUp = []
peer_text f (state.Sends target) = []

-- An edge to the peer of a file: a plain one has none.
abbrev pub peer_edge : ℕ → File → List ℕ
peer_edge f Plain = []
peer_edge f (AsSocket s) = peer_text f s.state

-- A file, and an edge to its peer.
abbrev pub file_text : World → Bool → ℕ → File → List ℕ
file_text w is_garbage f x = node_text w is_garbage f x ++ peer_edge f x

-- ---- what waits at files

-- A file attached to a message: an edge with the user who is charged for it (unix(7), SCM_RIGHTS).
abbrev pub attached_text : ℕ → ℕ → ℕ → List ℕ
attached_text f user g = edge_text f g
    (codes " [color=blue, label=\"user " ++ (decimal user ++ codes "\"]\n"))

-- All files attached to a message.
abbrev pub message_text : ℕ → Message → List ℕ
message_text f m = flat_map (attached_text f m.user) m.attached

-- An embryo (listen(2)).
abbrev pub embryo_text : ℕ → ℕ → List ℕ
embryo_text f g = edge_text f g (codes " [style=dashed, label=embryo]\n")

-- The contents of a file: the files attached to its messages, and its embryos.
abbrev pub contents_text : ℕ → File → List ℕ
contents_text f x =
    flat_map (message_text f) (queue_of x) ++ flat_map (embryo_text f) (backlog_of x)

-- ---- the whole

-- Whether the number is in the list.
abbrev pub is_in : List ℕ → ℕ → Bool
is_in xs f = list_any (nat_eq f) xs

-- All files, with the garbage in its colour.
abbrev pub files_text : World → List ℕ → List ℕ
files_text w garbage = flat_map (λ e. file_text w (is_in garbage e.0) e.0 e.1) (map.entries w.files)

-- All processes, all files, and all that waits at them, each by rising number.
abbrev pub graph_text : World → List ℕ → List ℕ
graph_text w garbage =
    codes "digraph world {\nrankdir=LR\n"
    ++ (flat_map (λ e. process_text e.0 e.1) (map.entries w.processes)
    ++ (files_text w garbage
    ++ (flat_map (λ e. contents_text e.0 e.1) (map.entries w.files)
    ++ codes "}\n")))

-- The text is the graph of the world, in which just the garbage has its colour.
abbrev pub IsGraph : World → List ℕ → Type 0
IsGraph w text = (garbage : List ℕ) × IsListOf (Garbage w) garbage × (text ≡ graph_text w garbage)
