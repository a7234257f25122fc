-- Abstract names of sockets.
use Rattle.std.specs.Prelude.{ℕ, Bool, false, ◌&&◌, ◌||◌, List, length, Option, nat_eq, nat_le}
use Rattle.std.specs.List.{find, list_all}
use Rattle.std.specs.Option.{option_map, option_map_or}
use Rattle.std.specs.Str.{bytes_eq}
use Rattle.std.specs.FinMap as map
use Rattle.af_base.specs.declared.events.SockType.{SockType}
use Rattle.af_base.specs.declared.events.SockType.TheVariants.{Stream, Seqpacket, Dgram}
use Rattle.af_base.specs.declared.limits.TheConstants.{MAX_NAME}
use Rattle.af_base.specs.World.{Map, File, Socket, Plain, AsSocket}

-- Whether the number is in a range, both ends included.
abbrev pub is_between : ℕ → ℕ → ℕ → Bool
is_between low high n = nat_le low n && nat_le n high

-- Whether the byte is a digit, a letter, `-`, `.` or `_`.
abbrev pub is_name_byte : ℕ → Bool
is_name_byte b = is_between 48 57 b || is_between 65 90 b || is_between 97 122 b || nat_eq b 45
    || nat_eq b 46 || nat_eq b 95

-- Whether these bytes are a name: 1 to 107 such bytes (unix(7), sun_path; which bytes is this
-- project's profile).
abbrev pub is_name : List ℕ → Bool
is_name bytes = is_between 1 MAX_NAME (length bytes) && list_all is_name_byte bytes

-- The set in which sockets of this type have their names: several sets may have the same name. One
-- set serves streams and packets, another one datagrams (unix(7), abstract; the one set of two types
-- is this project's profile).
abbrev pub set_of : SockType → ℕ
set_of Stream = 0
set_of Seqpacket = 0
set_of Dgram = 1

-- The set and the name that the socket is bound to, if it has a name (bind(2)).
abbrev pub bound_to : Socket → Option (ℕ × List ℕ)
bound_to s = option_map (λ name. (set_of s.kind, name)) s.name

-- Whether the file is a socket that has this name, in this set.
abbrev pub has_name : ℕ → List ℕ → File → Bool
has_name set name Plain = false
has_name set name (AsSocket s) =
    nat_eq set (set_of s.kind) && option_map_or (bytes_eq name) s.name false

-- The file of these that has the name in this set, if there is one (unix(7), abstract).
abbrev pub named : Map File → ℕ → List ℕ → Option ℕ
named files set name = option_map (λ e. e.0) (find (λ e. has_name set name e.1) (map.entries files))
