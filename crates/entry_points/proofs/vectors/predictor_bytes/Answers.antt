-- Each number's bytes are written one after the other.
-- Assumes nothing.
use Rattle.std.proofs.Common.{rules, ◌∙◌, [], pos}
use Rattle.entry_points.specs.Layout.{bytes_of}
use Rattle.entry_points.proofs.Words.{words_bytes}
use Rattle.entry_points.proofs.vectors.predictor_bytes.Goals as goal

pub returns : goal.returns
unfolding bytes_of
returns c =
    let m = c.map-words.ensures.items in
    c.copy_from_slice.ensures.after ∙ c.as_flattened.ensures.value
    ∙ words_bytes c.args.p.values c.map-words.result (search rules) (λ i b. let e = (m.at i (pos 0) [] (search rules)).2 in e.met)
