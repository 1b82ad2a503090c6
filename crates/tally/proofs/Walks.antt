-- A walk, by its first line and by its end.
-- Assumes nothing.
use Rattle.std.proofs.Common.{◌≡◌, ℕ, Bool, false, List, [], ◌∷◌, Option, Some, None, Result, Ok, Err, subst, inl, inr}
use Rattle.lists.specs.declared.cursor.Cursor.{Cursor}
use Rattle.lists.specs.declared.cursor.Line.{Line}
use Rattle.lists.specs.declared.cursor.Line.TheVariants.{Comment, Case}
use Rattle.lists.specs.declared.unread.Unread.TheVariants.{Malformed}
use Rattle.lists.specs.declared.unread.Unread.{Unread}
use Rattle.lists.specs.Text.{line_end, NextAt}
use Rattle.tally.specs.declared.Tally.{Tally}
use Rattle.tally.specs.Counts.{after_comment, after_case, at_end}
use Rattle.tally.specs.Walk.{Judge, Verdict, Walks}

pub comment_first : {J : Type 0} (judges : Judge J) {s z : List ℕ} (lines : List (Option Bool)) (j : J) (at : ℕ) {to : ℕ} (t : Tally) {u : Tally} (r : Tally) {line : Line}
    → z ≡ s → NextAt z at (Some line) → line ≡ Comment → to ≡ line_end z at → u ≡ after_comment t
    → Walks judges s lines j to u r → Walks judges s (None ∷ lines) j at t r
comment_first judges {s} {z} lines j at {to} t {u} r same next is place counted rest = (
  subst (λ (x : List ℕ). NextAt x at (Some Comment)) same (subst (λ (x : Line). NextAt z at (Some x)) is next),
  subst (λ (x : List ℕ). Walks judges s lines j (line_end x at) (after_comment t) r) same
      (subst (λ (x : ℕ). Walks judges s lines j x (after_comment t) r) place
      (subst (λ (x : Tally). Walks judges s lines j to x r) counted rest)),
)

pub case_first : {J : Type 0} (judges : Judge J) {s z : List ℕ} (lines : List (Option Bool)) (j k : J) (at : ℕ) {to : ℕ} (t : Tally) {u : Tally} (r : Tally) {line : Line} {case : Cursor} {agrees : Bool}
    → z ≡ s → NextAt z at (Some line) → line ≡ Case case → to ≡ line_end z at → Verdict judges j case (Ok agrees) k → u ≡ after_case t agrees
    → Walks judges s lines k to u r → Walks judges s (Some agrees ∷ lines) j at t r
case_first judges {s} {z} lines j k at {to} t {u} r {line} {case} {agrees} same next is place verdict counted rest = (
  case,
  k,
  subst (λ (x : List ℕ). NextAt x at (Some (Case case))) same (subst (λ (x : Line). NextAt z at (Some x)) is next),
  verdict,
  subst (λ (x : List ℕ). Walks judges s lines k (line_end x at) (after_case t agrees) r) same
      (subst (λ (x : ℕ). Walks judges s lines k x (after_case t agrees) r) place
      (subst (λ (x : Tally). Walks judges s lines k to x r) counted rest)),
)

pub ends_at_end : {J : Type 0} (judges : Judge J) {s z : List ℕ} (j : J) (at : ℕ) (t : Tally) {r : Tally} → z ≡ s → NextAt z at None → r ≡ t → Walks judges s [] j at t r
ends_at_end judges j at t same next is = inl (subst (λ (x : List ℕ). NextAt x at None) same next, is)

pub ends_malformed : {J : Type 0} (judges : Judge J) {s z : List ℕ} (j k : J) (at : ℕ) (t : Tally) {r : Tally} {line : Line} {case : Cursor} {answer : Result Bool Unread} {why : Unread}
    → z ≡ s → NextAt z at (Some line) → line ≡ Case case → Verdict judges j case answer k → answer ≡ Err why → why ≡ Malformed → r ≡ at_end t false
    → Walks judges s [] j at t r
ends_malformed judges {s} {z} j k at t {r} {line} {case} same next is verdict refused malformed counted =
    inr (
      case,
      k,
      subst (λ (x : List ℕ). NextAt x at (Some (Case case))) same (subst (λ (x : Line). NextAt z at (Some x)) is next),
      subst (λ (x : Unread). Verdict judges j case (Err x) k) malformed (subst (λ (x : Result Bool Unread). Verdict judges j case x k) refused verdict),
      counted,
    )
