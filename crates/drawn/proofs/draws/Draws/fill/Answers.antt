-- The invariant before the first turn, after a turn that writes a byte, and at the end.
-- Assumes nothing.
use Rattle.std.proofs.Common.{arith, refl, sym, ap, ◌∙◌, ◌≡◌, length}
use Rattle.laws.proofs.Filled.{filled_none, filled_step, filled_all}
use Rattle.drawn.specs.Draws.{next_number, byte_of, number_after}
use Rattle.drawn.proofs.Runs.{number_after_none, number_after_next}
use Rattle.drawn.proofs.draws.Draws.fill.Goals as goal

pub loop-byte-init : goal.loop-byte-init
loop-byte-init c = record { filled = filled_none _ _; last = number_after_none _ }

pub loop-byte-preserved : goal.loop-byte-preserved
loop-byte-preserved c =
    let l = c.loop-byte in
    let e = c.byte.ensures in
    record {
      filled = filled_step l.invariant.filled (omega arith) (e.byte ∙ ap (λ n. byte_of (next_number n)) l.invariant.last);
      last = e.last ∙ ap next_number l.invariant.last ∙ sym (number_after_next _ l.byte-index);
    }

pub returns-clause-bytes : goal.returns-clause-bytes
returns-clause-bytes c = filled_all c.loop-byte.invariant.filled (omega arith) refl

pub returns-clause-last : goal.returns-clause-last
returns-clause-last c =
    let l = c.loop-byte in
    let all : l.byte-index ≡ length c.args.bytes.now = omega arith in
    l.invariant.last ∙ ap (number_after c.args.self.now.last) all
