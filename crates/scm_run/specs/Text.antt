-- The text of replies.
use Rattle.std.specs.Prelude.{ℕ, ◌==◌, ◌&&◌, ◌≤◌, length, List, [], ◌∷◌, ◌++◌, Bool, true, if◌then◌else◌, codes, Result, Ok, Err}
use Rattle.std.specs.List.{flat_map}
use Rattle.std.specs.Fmt.{decimal}
use Rattle.af_base.specs.Errno.{name_of}
use Rattle.af_base.specs.Names.{is_name_byte}
use Rattle.af_base.specs.declared.errno.Errno.{Errno}
use Rattle.af_base.specs.declared.events.Reply.{Reply}
use Rattle.af_base.specs.declared.events.Reply.TheVariants as reply
use Rattle.af_base.specs.declared.limits.TheConstants.{MAX_BYTES, SCM_MAX_FD}
use Rattle.af_report.specs.Texts.{escaped}

-- Each byte is printed as itself.
abbrev pub all_plain : List ℕ → Bool
all_plain [] = true
all_plain (b ∷ bytes) = is_name_byte b && all_plain bytes

-- A number behind a space.
abbrev pub spaced : ℕ → List ℕ
spaced n = 32 ∷ decimal n

-- ` fds` and the numbers in order, where there is one.
abbrev pub fds_text : List ℕ → List ℕ
fds_text fds = if length fds == 0 then [] else codes " fds" ++ flat_map spaced fds

-- A word that is written only if a flag is set.
abbrev pub flag_text : Bool → List ℕ → List ℕ
flag_text flag word = if flag then word else []

-- The result of a receive: the bytes, the numbers, and the two flags. This project's profile.
abbrev pub got_text : List ℕ → List ℕ → Bool → Bool → List ℕ
got_text bytes fds trunc ctrunc = codes "got " ++ flat_map escaped bytes ++ fds_text fds
    ++ flag_text trunc (codes " trunc") ++ flag_text ctrunc (codes " ctrunc")

-- A reply without the end of its line. This project's profile.
abbrev pub reply_text : Reply → List ℕ
reply_text (reply.Pid pid) = codes "pid " ++ decimal pid
reply_text (reply.Fd fd) = codes "fd " ++ decimal fd
reply_text (reply.Fds first second) = codes "fds " ++ decimal first ++ spaced second
reply_text reply.Ok = codes "ok"
reply_text (reply.Sent count) = codes "sent " ++ decimal count
reply_text (reply.Got bytes fds trunc ctrunc) = got_text bytes fds trunc ctrunc
reply_text reply.End = codes "end"
reply_text (reply.Started pass) = codes "started " ++ decimal pass
reply_text reply.Working = codes "working"
reply_text (reply.Done pass reclaimed) = codes "pass " ++ decimal pass ++ codes " reclaimed "
    ++ decimal reclaimed
reply_text (reply.Refused error) = name_of error

-- The reply that tells what a call answered, or its error.
abbrev pub outcome_reply : {A : Type 0} → (A → Reply) → Result A Errno → Reply
outcome_reply tells (Ok answer) = tells answer
outcome_reply tells (Err error) = reply.Refused error

-- The line of a reply ends in a line feed.
unfoldable pub reply_line : Reply → List ℕ
reply_line answer = reply_text answer ++ 10 ∷ []

-- The reply is no longer than a step can make it: at most this many bytes and numbers of a receive.
-- This project's profile.
abbrev pub IsShort : Reply → Type 0
IsShort (reply.Got bytes fds trunc ctrunc) = (length bytes ≤ MAX_BYTES) × (length fds ≤ SCM_MAX_FD)
IsShort other = Unit {0}
