-- A turn reads one zero more, at the place behind the words so far.
-- Assumes nothing.
use Rattle.std.proofs.Common.{rules, ◌≡◌, ◌∙◌, ap, sym, pos, Ok}
use Rattle.lists.specs.Numbers.{number_at, words_end}
use Rattle.lists.proofs.Zeros.{number_moved, end_moved, words_none, words_next, zeros_none, zeros_next}
use Rattle.lists.proofs.cursor.Cursor.zeros.Goals as goal

pub loop-init : goal.loop-init
loop-init c = record { text = search rules; place = words_none _ _; zeros = zeros_none _ _ }

pub loop-preserved : goal.loop-preserved
loop-preserved c =
    let l = c.loop in
    let s = c.args.self.now.text.now in
    let at = c.args.self.now.at in
    let e = c.in_ok-integer.ensures in
    let zero : c.in_ok-integer.field-0 ≡ pos 0 = search rules in
    let read : number_at s (words_end s at l.counter) ≡ Ok (pos 0) =
    sym (number_moved l.invariant.text l.invariant.place) ∙ sym e.number ∙ ap Ok zero in
    let further = end_moved l.invariant.text l.invariant.place in
    record {
      text = e.moved.text ∙ l.invariant.text;
      place = e.moved.place ∙ further ∙ sym (words_next s at l.counter);
      zeros = zeros_next s at l.counter l.invariant.zeros read;
    }
