-- Lines that are played, one after another.
use Rattle.std.proofs.Common.{◌≡◌, ℕ, ◌+◌, ◌<◌, List, [], ◌∷◌, ◌++◌, length, Some, refl, sym, ap, ◌∙◌, inl, inr, subst, append_assoc}
use Rattle.std.specs.Str.Lines.{lines}
use Rattle.std.specs.Io.BufRead.{drop_through, take_through}
use Rattle.std.specs.Io.KnownBytes.{Appends}
use Rattle.std.proofs.KnownBytes.{Appends-nil, Appends-trans}
use Rattle.std.specs.Prelude.{Err, Ok, OnOk, Option, Result}
use Rattle.scm_run.specs.Script.{Point, RunText, first_point}
use Rattle.scmgc.specs.Cut.{line_in}
use Rattle.scmgc.specs.Played.{AnswersLine, PlayText, Played}
use Rattle.scmgc.specs.Progress.{Goes, IsOver}
use Rattle.scmgc.specs.Display.{entry_text, prompt_text}
use Rattle.scmgc.specs.declared.play.show.Style.{Style}
use Rattle.scmgc.proofs.FirstLines.{first_read, nothing_read}

-- The shown text of lines, whichever of them can be read.
pub record Plays (style : Style) (n : ℕ) (old : Point) (script : List (List ℕ)) (text : List ℕ) (new : Point) : Type 0 where
  pub read : List (List ℕ)
  pub replies : List ℕ
  pub plays : PlayText style n old script read replies text new

-- Some lines of the input were played and are shown; however the others are played, all are.
pub record Leads (style : Style) (input : List ℕ) (left before after : Option (List ℕ)) (n : ℕ) (point : Point) : Type 0 where
  pub rest : List ℕ
  pub leaves : left ≡ Some rest
  pub written : List ℕ
  pub wrote : Appends before after written
  pub leads : (text : List ℕ) (new : Point) → Plays style n point (lines rest) text new → Plays style 1 first_point (lines input) (written ++ text) new

-- One line before others.
one_more : (style : Style) (n : ℕ) (old mid new : Point) (line : List ℕ) (others : List (List ℕ)) (answer text : List ℕ) → AnswersLine old line answer mid
    → Plays style (n + 1) mid others text new → Plays style n old (line ∷ others) (prompt_text style n ++ (entry_text style n line answer ++ text)) new
one_more style n old mid new line others answer text (inl does) later = record {
  read = line ∷ later.read;
  replies = answer ++ later.replies;
  plays = (mid, answer, text, refl, inl (does, later.read, later.replies, refl, refl, later.plays));
}
one_more style n old mid new line others answer text (inr tells) later = record {
  read = later.read;
  replies = later.replies;
  plays = (mid, answer, text, refl, inr (tells, later.plays));
}

-- Nothing was played yet.
pub leads_first : (style : Style) (input : List ℕ) (left : Option (List ℕ)) (now : Option (List ℕ)) → left ≡ Some input → Leads style input left now now 1 first_point
leads_first style input left now e = record { rest = input; leaves = e; written = []; wrote = Appends-nil now; leads = λ text new plays. plays }

-- One line more was played.
pub leads_more : (style : Style) (input : List ℕ) (was left before mid after : Option (List ℕ)) (n : ℕ) (old new : Point) → Leads style input was before mid n old
    → ((rest : List ℕ) → was ≡ Some rest → Goes style n rest left mid after old new) → Leads style input left before after (n + 1) new
leads_more style input was left before mid after n old new l step =
    let g = step l.rest l.leaves in
    let shown = prompt_text style n ++ entry_text style n g.line g.answer in
    record {
      rest = g.rest;
      leaves = g.leaves;
      written = l.written ++ shown;
      wrote = Appends-trans before mid after l.written shown l.wrote g.wrote;
      leads = λ text last plays.
          let more = one_more style n old new last g.line (lines g.rest) g.answer text g.answers plays in
          let whole = l.leads (prompt_text style n ++ (entry_text style n g.line g.answer ++ text)) last
          (subst (λ (script : List (List ℕ)). Plays style n old script (prompt_text style n ++ (entry_text style n g.line g.answer ++ text)) last) (sym g.cut) more) in
          subst (λ (t : List ℕ). Plays style 1 first_point (lines input) t last)
          (ap (λ t. l.written ++ t) (sym (append_assoc (prompt_text style n) (entry_text style n g.line g.answer) text))
          ∙ sym (append_assoc l.written shown text)) whole;
    }

-- No line is left.
pub played_all : (style : Style) (input : List ℕ) (was left before mid after : Option (List ℕ)) (n : ℕ) (old : Point) → Leads style input was before mid n old
    → ((rest : List ℕ) → was ≡ Some rest → IsOver style n rest left mid after) → Played style input before after
played_all style input was left before mid after n old l step =
    let over = step l.rest l.leaves in
    let none : Plays style n old (lines l.rest) (prompt_text style n) old =
    subst (λ (rest : List ℕ). Plays style n old (lines rest) (prompt_text style n) old) (sym over.none) (record { read = []; replies = []; plays = (refl, refl, refl, refl) }) in
    let whole = l.leads (prompt_text style n) old none in
    record {
      read = whole.read;
      replies = whole.replies;
      text = l.written ++ prompt_text style n;
      point = old;
      plays = whole.plays;
      wrote = Appends-trans before mid after l.written (prompt_text style n) l.wrote over.wrote;
    }

-- Then the reader has nothing left.
pub over_left : (style : Style) (input : List ℕ) (was left before mid after : Option (List ℕ)) (n : ℕ) (old : Point) → Leads style input was before mid n old
    → ((rest : List ℕ) → was ≡ Some rest → IsOver style n rest left mid after) → left ≡ Some []
over_left style input was left before mid after n old l step = let over = step l.rest l.leaves in over.leaves

-- The answers to the lines that can be read are a run of these.
pub run_of_played : (style : Style) (n : ℕ) (old : Point) (script read : List (List ℕ)) (replies text : List ℕ) (new : Point) → PlayText style n old script read replies text new
    → (events : ℕ) × RunText old read events replies new
run_of_played style n old [] read replies text new (none, silent, shown, same) =
    (0, subst (λ (r : List (List ℕ)). RunText old r 0 replies new) (sym none) (refl, silent, same))
run_of_played style n old (bytes ∷ others) read replies text new (mid, answer, more, shown, inl ((events, does), later, rest, is, said, plays)) =
    let (events', runs) = run_of_played style (n + 1) mid others later rest more new plays in
    (events + events', subst (λ (r : List (List ℕ)). RunText old r (events + events') replies new) (sym is) (mid, events, answer, events', rest, does, runs, refl, said))
run_of_played style n old (bytes ∷ others) read replies text new (mid, answer, more, shown, inr ((no_line, told, same), plays)) =
    let (events, runs) = run_of_played style (n + 1) mid others read replies more new plays in
    (events, subst (λ (p : Point). RunText p read events replies new) same runs)

-- ---- one line

-- A line that was read with its end is played where its text is written.
pub line_played : {E : Type 0} (r : Result (Unit {0}) E) (style : Style) (n : ℕ) (old new : Point) (line read text shown : List ℕ) (before after : Option (List ℕ)) → line ≡ line_in read
    → shown ≡ text → (answer : List ℕ) × (text ≡ entry_text style n line answer) × AnswersLine old line answer new → OnOk r (Appends before after shown)
    → OnOk r ((answer : List ℕ) × AnswersLine old (line_in read) answer new × Appends before after (entry_text style n (line_in read) answer))
line_played (Err e) style n old new line read text shown before after is same made wrote = tt
line_played (Ok x) style n old new line read text shown before after is same (answer, made, answers) wrote = (
  answer,
  subst (λ (l : List ℕ). AnswersLine old l answer new) is answers,
  subst (λ (t : List ℕ). Appends before after t) (same ∙ made ∙ ap (λ l. entry_text style n l answer) is) wrote,
)

-- So the first line of the input is.
pub line_goes : (style : Style) (n : ℕ) (old new : Point) (input read : List ℕ) (left before mid after : Option (List ℕ)) → read ≡ take_through 10 input → 0 < length read
    → left ≡ Some (drop_through 10 input) → Appends before mid (prompt_text style n)
    → (answer : List ℕ) × AnswersLine old (line_in read) answer new × Appends mid after (entry_text style n (line_in read) answer) → Goes style n input left before after old new
line_goes style n old new input read left before mid after is some leaves prompted (answer, answers, wrote) = record {
  line = line_in read;
  rest = drop_through 10 input;
  answer = answer;
  cut = first_read input (subst (λ (r : List ℕ). 0 < length r) is some) ∙ ap (λ r. line_in r ∷ lines (drop_through 10 input)) (sym is);
  leaves = leaves;
  answers = answers;
  wrote = Appends-trans before mid after (prompt_text style n) (entry_text style n (line_in read) answer) prompted wrote;
}

-- No line was read.
pub line_over : (style : Style) (n : ℕ) (input read : List ℕ) (left before after : Option (List ℕ)) → read ≡ take_through 10 input → length read ≡ 0
    → left ≡ Some (drop_through 10 input) → Appends before after (prompt_text style n) → IsOver style n input left before after
line_over style n input read left before after is none leaves prompted =
    let empty : input ≡ [] = nothing_read input (sym (ap length is) ∙ none) in
    record { none = empty; leaves = leaves ∙ ap (λ i. Some (drop_through 10 i)) empty; wrote = prompted }
