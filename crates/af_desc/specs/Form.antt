-- The forms of a file. The definitions that name no manual page are this project's own.
use Rattle.std.specs.Prelude.{ℕ, List, Option, None, Some, []}
use Rattle.std.specs.Option.{option_map_or}
use Rattle.af_base.specs.World.{Socket}
use Rattle.af_base.specs.Steps.{connected_socket, idle_socket}
use Rattle.af_base.specs.declared.events.SockType.TheVariants.{Stream}
use Rattle.af_base.specs.declared.events.State.{State}
use Rattle.af_base.specs.declared.events.State.TheVariants as state
use Rattle.af_desc.specs.declared.socket.Form.{Form}
use Rattle.af_desc.specs.declared.socket.Form.TheVariants as form
use Rattle.af_desc.specs.declared.socket.Link.{Link}
use Rattle.af_desc.specs.declared.socket.Link.TheVariants.{Idle, Listening, Connected, HungUp, Sends}

-- The state that a link shows.
abbrev pub state_of : Link → State
state_of Idle = state.Idle
state_of (Listening most) = state.Listening most
state_of (Connected peer) = state.Connected peer
state_of HungUp = state.HungUp
state_of (Sends to) = state.Sends to

-- The socket that a form shows, with an empty queue. No clause speaks of that of a plain file.
abbrev pub shown : Form → Socket
shown form.Plain = idle_socket Stream
shown (form.Idle kind ends) = record (idle_socket kind) { ends = ends }
shown (form.Connected kind ends peer) = record (connected_socket kind peer) { ends = ends }
shown (form.HungUp kind ends) = record (idle_socket kind) { state = state.HungUp; ends = ends }
shown (form.Sends kind ends to) = record (idle_socket kind) { state = state.Sends to; ends = ends }
shown (form.Named kind ends b) = record {
  kind = kind;
  state = state_of b.value.link;
  name = Some b.value.name;
  ends = ends;
  queue = [];
  backlog = b.value.backlog.waiting;
}

-- The socket that a file is, with an empty queue; of a plain file none.
abbrev pub kind_of : Form → Option Socket
kind_of form.Plain = None
kind_of (form.Idle kind ends) = Some (shown (form.Idle kind ends))
kind_of (form.Connected kind ends peer) = Some (shown (form.Connected kind ends peer))
kind_of (form.HungUp kind ends) = Some (shown (form.HungUp kind ends))
kind_of (form.Sends kind ends to) = Some (shown (form.Sends kind ends to))
kind_of (form.Named kind ends b) = Some (shown (form.Named kind ends b))

-- The embryos that wait to be accepted; of a plain file none.
abbrev pub embryos_of : Option Socket → List ℕ
embryos_of o = option_map_or (λ s. s.backlog) o []

-- How many embryos there is room for.
abbrev pub most_of : Form → ℕ
most_of form.Plain = 0
most_of (form.Idle kind ends) = 0
most_of (form.Connected kind ends peer) = 0
most_of (form.HungUp kind ends) = 0
most_of (form.Sends kind ends to) = 0
most_of (form.Named kind ends b) = b.value.backlog.most
