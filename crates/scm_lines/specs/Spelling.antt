-- The spelling of words of a line: numbers, the bytes of a message, items, and names of types and of
-- ends. This project's profile.
use Rattle.std.specs.Prelude.{◌≡◌, ◌≤◌, ◌<◌, ◌⊎◌, ℕ, ◌+◌, ◌*◌, ◌^◌, List, [], ◌∷◌, ◌++◌, length, replicate, Bool, true, false, codes, Some}
use Rattle.std.specs.Fmt.{decimal}
use Rattle.af_base.specs.declared.events.Shutdown.{Shutdown}
use Rattle.af_base.specs.declared.events.Shutdown.TheVariants as how
use Rattle.af_base.specs.declared.events.SockType.{SockType}
use Rattle.af_base.specs.declared.events.SockType.TheVariants.{Dgram, Seqpacket, Stream}
use Rattle.scm_lines.specs.Payload.{hex_value, is_plain}
use Rattle.scm_lines.specs.declared.version.Version.{Version}
use Rattle.scm_lines.specs.declared.version.Version.TheVariants as version

-- A word that is the decimal digits of a number below 2 ^ 32.
abbrev pub IsNumber : List ℕ → ℕ → Type 0
IsNumber word n = (n < 2 ^ 32) × (word ≡ decimal n)

-- A word that begins with characters for one byte, the byte, and the rest of the word: the byte
-- itself where it is plain, else % and two hexadecimal digits.
abbrev pub SpellsByte : List ℕ → ℕ → List ℕ → Type 0
SpellsByte word b rest =
    ((is_plain b ≡ true) × (word ≡ b ∷ rest))
    ⊎ ((high low h l : ℕ) × (word ≡ 37 ∷ high ∷ low ∷ rest) × (hex_value high ≡ Some h)
    × (hex_value low ≡ Some l) × (b ≡ 16 * h + l))

-- A word that is the characters for these bytes, one after another.
abbrev pub Spells : List ℕ → List ℕ → Type 0
Spells word [] = word ≡ []
Spells word (b ∷ bytes) = (rest : List ℕ) × (SpellsByte word b rest × Spells rest bytes)

-- A word for the bytes of a message, at most 65,537: * and the number n for n times the letter x,
-- or the characters for one byte or more.
abbrev pub IsPayload : List ℕ → List ℕ → Type 0
IsPayload word bytes = (length bytes ≤ 65537)
    × (((digits : List ℕ) × ((n : ℕ) × (word ≡ 42 ∷ digits) × IsNumber digits n
    × (bytes ≡ replicate n 120)))
    ⊎ ((0 < length bytes) × Spells word bytes))

-- An item, and its descriptors: a number, or a number, * and how many copies of it, 1 to 1,024.
abbrev pub IsItem : List ℕ → List ℕ → Type 0
IsItem word fds =
    ((n : ℕ) × (IsNumber word n × (fds ≡ n ∷ [])))
    ⊎ ((front back : List ℕ) × ((n k : ℕ) × (word ≡ front ++ 42 ∷ back)
    × IsNumber front n × IsNumber back k × (1 ≤ k) × (k ≤ 1024) × (fds ≡ replicate k n)))

-- Items, and their descriptors, in order.
abbrev pub AreItems : List (List ℕ) → List ℕ → Type 0
AreItems [] fds = fds ≡ []
AreItems (word ∷ words) fds = (first others : List ℕ)
    × (IsItem word first × AreItems words others × (fds ≡ first ++ others))

-- Items of at most 1,024 descriptors.
abbrev pub IsAttached : List (List ℕ) → List ℕ → Type 0
IsAttached words fds = (length fds ≤ 1024) × AreItems words fds

-- The name of a type of sockets.
abbrev pub type_name : SockType → List ℕ
type_name Stream = codes "stream"
type_name Seqpacket = codes "seqpacket"
type_name Dgram = codes "dgram"

-- The name of the ends that shutdown(2) closes.
abbrev pub how_name : Shutdown → List ℕ
how_name how.Read = codes "read"
how_name how.Write = codes "write"
how_name how.Both = codes "both"

-- priv alone where a privilege is granted, and no word where none is.
abbrev pub IsPrivilege : List (List ℕ) → Bool → Type 0
IsPrivilege words false = words ≡ []
IsPrivilege words true = words ≡ codes "priv" ∷ []

-- A word that names this version: each but the first has a name.
abbrev pub IsVersion : List ℕ → Version → Type 0
IsVersion word version.Second = word ≡ codes "2"
IsVersion word version.Third = word ≡ codes "3"
IsVersion word other = ⊥
