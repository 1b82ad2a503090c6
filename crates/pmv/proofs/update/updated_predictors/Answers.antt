-- The rows agree with the rule.
-- Assumes nothing.
use Rattle.std.proofs.Common.{◌≡◌, ap, ◌∙◌, ℕ, length, rules}
use Rattle.pmv.specs.Kinds.{is_frame_picture}
use Rattle.pmv.specs.Update.{updated}
use Rattle.pmv.specs.inner.Rows.{answer_of, carried_out}
use Rattle.pmv.proofs.Rows.{answer_right, does}
use Rattle.combine_predictions.proofs.Answers.{refusal_of, value_of}
use Rattle.pmv.proofs.update.updated_predictors.Goals as goal

pub returns : goal.returns
unfolding updated
returns c =
    let p = c.args.pmv in
    let x = c.args.ctx in
    let eight : length p.values ≡ 8 = search rules in
    let frame = is_frame_picture x.picture_structure in
    let m = x.prediction_type in
    let f = x.macroblock_motion_forward in
    let b = x.macroblock_motion_backward in
    let t = x.macroblock_intra in
    let h = x.concealment_motion_vectors in
    let d = c.decide-row.ensures in
    let ea = c.answer_of.ensures ∙ ap answer_of d ∙ answer_right frame m f b t h in
    let ep = c.carried_out.ensures ∙ ap (λ (k : ℕ). carried_out k p) d ∙ does frame m f b t h p eight in
    record {
      update = λ i. record { answer = ea i; pmv = ep i };
      refusal = refusal_of _ _ ea;
      value = value_of _ _ ea;
    }
