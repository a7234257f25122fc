-- The words with a meaning after a keyword. This project's profile.
use Rattle.std.specs.Prelude.{ℕ, List, [], ◌∷◌, find, if◌then◌else◌, Bool, true, false, Option, Some, None, codes}
use Rattle.std.specs.Option.{option_map}
use Rattle.std.specs.Str.{bytes_eq}
use Rattle.af_base.specs.declared.events.Shutdown.{Shutdown}
use Rattle.af_base.specs.declared.events.Shutdown.TheVariants as how
use Rattle.af_base.specs.declared.events.SockType.{SockType}
use Rattle.af_base.specs.declared.events.SockType.TheVariants.{Dgram, Seqpacket, Stream}
use Rattle.scm_lines.specs.Words.{at_end}
use Rattle.scm_lines.specs.declared.version.Version.{Version}
use Rattle.scm_lines.specs.declared.version.Version.TheVariants as version

-- The meaning of a word in a table of words.
abbrev pub meaning : {A : Type 0} → List (List ℕ × A) → List ℕ → Option A
meaning table word = option_map (λ entry. entry.1) (find (λ entry. bytes_eq entry.0 word) table)

-- The types of sockets, each with its word.
abbrev pub types : List (List ℕ × SockType)
types = (codes "stream", Stream) ∷ (codes "seqpacket", Seqpacket) ∷ (codes "dgram", Dgram) ∷ []

-- The type of sockets that a word names.
abbrev pub type_of : List ℕ → Option SockType
type_of word = meaning types word

-- The ends that shutdown(2) closes, each with its word.
abbrev pub hows : List (List ℕ × Shutdown)
hows = (codes "read", how.Read) ∷ (codes "write", how.Write) ∷ (codes "both", how.Both) ∷ []

-- The ends that a word names.
abbrev pub how_of : List ℕ → Option Shutdown
how_of word = meaning hows word

-- The versions that a script can name, each with its word.
abbrev pub versions : List (List ℕ × Version)
versions = (codes "2", version.Second) ∷ (codes "3", version.Third) ∷ []

-- The version that a word names.
abbrev pub version_of : List ℕ → Option Version
version_of word = meaning versions word

-- No word, or priv alone.
abbrev pub privilege_of : List (List ℕ) → Option Bool
privilege_of [] = Some false
privilege_of (word ∷ words) = if bytes_eq word (codes "priv") then at_end true words else None
