-- A turn adds its line to the walk; the end, or a case that is not well formed, adds none.
-- Assumes nothing.
use Rattle.std.proofs.Common.{◌∙◌, None, Some, ◌∷◌, []}
use Rattle.std.specs.Fn.{CalledAtMut}
use Rattle.tally.proofs.Walks.{comment_first, case_first, ends_at_end, ends_malformed}
use Rattle.tally.proofs.walk.Goals as goal
use Rattle.tally.proofs.walk.Goals.{in-Some+in-Case+in-Err-Malformed, in_default}

pub loop-line-preserved-in-Comment : goal.loop-line-preserved-in-Comment
loop-line-preserved-in-Comment g c =
    let l = c.loop-line in
    let e = c.comment.ensures in
    let next = c.next_line.ensures.moved in
    record {
      callable = l.invariant.callable;
      text = next.text ∙ l.invariant.text;
      walks = λ lines r w. l.invariant.walks (None ∷ lines) r (comment_first _ lines _ _ _ r l.invariant.text c.in-Some.ensures.line c.in-Comment.is next.place e w);
    }

pub loop-line-preserved : goal.loop-line-preserved
loop-line-preserved g c =
    let l = c.loop-line in
    let next = c.next_line.ensures.moved in
    record {
      callable = c.verdict.ensures.callable;
      text = next.text ∙ l.invariant.text;
      walks = λ lines r w. l.invariant.walks (Some c.in-Ok.agrees ∷ lines) r (case_first _ lines _ _ _ _ r l.invariant.text c.in-Some.ensures.line c.in-Case.is next.place c.in-Ok.ensures.verdict c.judge.ensures w);
    }

pub returns : goal.returns
returns g c =
    let l = c.loop-line in
    elim c.match-next_line.branch [
      | in-Some+in-Case+in-Err-Malformed w ↦
          l.invariant.walks [] _ (ends_malformed (CalledAtMut g.J.FnMut) l.judge w.verdict.new.judge l.lines.at l.tally l.invariant.text w.in-Some.ensures.line w.in-Case.is w.verdict.ensures.verdict w.in-Err-Malformed.is w.in-Err-Malformed.field-0-is w.tally-is)
      | in_default w ↦ l.invariant.walks [] _ (ends_at_end (CalledAtMut g.J.FnMut) l.judge l.lines.at l.tally l.invariant.text w.in_default.ensures.line w.tally-is)
    ]
