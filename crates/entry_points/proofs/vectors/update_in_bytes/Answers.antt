-- Where the update is refused, the predictors that are written are those that were read.
-- Assumes nothing.
use Rattle.combine_predictions.specs.Refusals.{refusal_number}
use Rattle.std.proofs.Common.{ap, ◌∙◌, rules}
use Rattle.pmv.specs.Refusals.{update_number}
use Rattle.pmv.specs.Update.{update_refusal}
use Rattle.pmv.specs.declared.update.PredictorUpdate.{PredictorUpdate}
use Rattle.entry_points.specs.Entries.{unless_number}
use Rattle.entry_points.specs.Layout.{predictor_bytes}
use Rattle.entry_points.proofs.Reading.{code_is}
use Rattle.entry_points.proofs.Updates.{updated_left}
use Rattle.entry_points.proofs.vectors.update_in_bytes.Goals as goal

pub returns-clause-predictors : goal.returns-clause-predictors
returns-clause-predictors c =
    let p = c.args.predictors.now in
    let r = c.updated_predictors-update.result in
    let e = rw c.load_predictors.ensures at c.updated_predictors-update.ensures.update in
    let h = updated_left c.args.ctx p c.args.outcome.now (search rules) (λ i. search rules) (search rules) r e in
    rw (code_is update_number r.answer c.code_of.ensures, h.0)
    (c.predictor_bytes.ensures ∙ h.1.0
    ∙ ap (λ (v : PredictorUpdate). unless_number (refusal_number update_number (update_refusal c.args.ctx)) (predictor_bytes v.pmv) p) e)
