-- The worked cases of docs/SCOPE.md, of all layers, in its order and nearly in its words: the table at the end, to be held beside it, and the
-- single claim that all of them hold by the definitions, which are the standard's where it has some. `number_of_cases` promises it.
use Rattle.std.specs.Prelude.{◌≡◌, Bool, true, false, List, [], ◌∷◌, ◌++◌, ℕ, zero, suc, ℤ, pos, negsuc, length, Option, Some, None}
use Rattle.laws.specs.All.{All}
use Rattle.combine_predictions.specs.Averaging.{mean2}
use Rattle.combine_predictions.specs.Refusals.{refusal_number}
use Rattle.forming_predictions.specs.Splitting.{floor_half, half_flag}
use Rattle.forming_predictions.specs.Lines.{frame, field, field_lines, sample_at}
use Rattle.forming_predictions.specs.Means.{mean4, rounded}
use Rattle.forming_predictions.specs.Forming.{formed}
use Rattle.forming_predictions.specs.declared.FieldParity.TheVariants.{Bottom}
use Rattle.pmv.specs.Refusals.{vector_number}
use Rattle.pmv.specs.Component.{halves, component_of, component_refusal}
use Rattle.pmv.specs.Chroma.{chroma_horizontal, chroma_vertical}
use Rattle.pmv.specs.declared.component.ReconstructedComponent.{ReconstructedComponent}
use Rattle.pmv.specs.declared.kinds.ChromaFormat.{ChromaFormat}
use Rattle.pmv.specs.declared.kinds.ChromaFormat.TheVariants.{Yuv420, Yuv422, Yuv444}
use Rattle.pmv.specs.declared.kinds.Component.TheVariants.{Vertical}
use Rattle.pmv.specs.declared.kinds.MvFormat.TheVariants as MvFormat
use Rattle.pmv.specs.declared.kinds.PictureStructure.TheVariants as PictureStructure

infix 90 −◌
infix 80 vertical_field_vector_in_frame_picture◌
infix 75 f_code◌code◌residual◌prior◌ f_code◌code◌prior◌ f_code◌code◌any_prior
infix 70 average_of◌and◌is◌ vector◌splits_to_whole◌with_a_half vector◌splits_to_whole◌without_a_half mean_of◌and◌and◌and◌is◌
infix 70 ◌both_halves_at◌give◌ ◌bottom_field_is_empty_and_samples◌
infix 70 ◌is_always_refusal◌ ◌is_refusal◌ ◌gives_vector◌ ◌gives_delta◌and_vector◌ ◌gives_vector◌and_new_predictor◌
infix 70 chroma_of◌by◌is◌
-- − 3 is -3; pos 3 is 3
abbrev pub −◌ : ℕ → ℤ
−◌ zero = pos zero
−◌ (suc n) = negsuc n

-- ---- what the cases speak of

pub record Plane : Type 0 where
  pub width : ℕ
  pub height : ℕ
  pub samples : List ℕ

abbrev pub plane_of_one_sample : ℕ → Plane
plane_of_one_sample s = record { width = 1; height = 1; samples = s ∷ [] }

abbrev pub plane_with_rows : List ℕ → List ℕ → Plane
plane_with_rows r s = record { width = length r; height = 2; samples = r ++ s }

-- what a component is made of; `halved`: it goes by half the predictor
pub record Input : Type 0 where
  pub f_code : ℕ
  pub motion_code : ℤ
  pub motion_residual : Option ℕ
  pub predictor : ℤ
  pub halved : Bool

-- of vectors that are not halved, whatever their kind
abbrev pub f_code◌code◌residual◌prior◌ : ℕ → ℤ → ℕ → ℤ → Input
f_code n code c residual r prior p =
    record { f_code = n; motion_code = c; motion_residual = Some r; predictor = p; halved = false }

abbrev pub f_code◌code◌prior◌ : ℕ → ℤ → ℤ → Input
f_code n code c prior p = record { f_code = n; motion_code = c; motion_residual = None; predictor = p; halved = false }

abbrev pub f_code◌code◌any_prior : ℕ → ℤ → ℤ → Input
f_code n code c any_prior = λ (p : ℤ). f_code n code c prior p

abbrev pub vertical_field_vector_in_frame_picture◌ : Input → Input
vertical_field_vector_in_frame_picture i =
    record {
      f_code = i.f_code;
      motion_code = i.motion_code;
      motion_residual = i.motion_residual;
      predictor = i.predictor;
      halved = halves MvFormat.Field PictureStructure.Frame Vertical;
    }

-- the number of its refusal, 0 for none
abbrev pub refusal_of : Input → ℕ
refusal_of i = refusal_number vector_number (component_refusal i.f_code i.motion_code i.motion_residual i.predictor i.halved)

-- vector, new predictor, delta and range of a component that is not refused
abbrev pub answer_of : Input → ReconstructedComponent
answer_of i = component_of i.f_code i.motion_code i.motion_residual i.predictor i.halved

-- ---- the kinds of cases, and what each says

pub data Case : Type 0 where
  average_of◌and◌is◌ : (a b mean : ℕ) → Case
  vector◌splits_to_whole◌with_a_half : (v whole : ℤ) → Case
  vector◌splits_to_whole◌without_a_half : (v whole : ℤ) → Case
  mean_of◌and◌and◌and◌is◌ : (a b c d mean : ℕ) → Case
  ◌both_halves_at◌give◌ : (p : Plane) (at : ℤ × ℤ) (sample : ℕ) → Case
  ◌bottom_field_is_empty_and_samples◌ : (p : Plane) (sample : ℕ) → Case
  ◌is_always_refusal◌ : (i : ℤ → Input) (number : ℕ) → Case
  ◌is_refusal◌ : (i : Input) (number : ℕ) → Case
  ◌gives_vector◌ : (i : Input) (v : ℤ) → Case
  ◌gives_delta◌and_vector◌ : (i : Input) (d v : ℤ) → Case
  ◌gives_vector◌and_new_predictor◌ : (i : Input) (v p : ℤ) → Case
  chroma_of◌by◌is◌ : (v : ℤ × ℤ) (format : ChromaFormat) (chroma : ℤ × ℤ) → Case

abbrev pub Holds : Case → Type 0
Holds (average_of a and b is mean) = mean2 a b ≡ mean
Holds (vector v splits_to_whole whole with_a_half) = (floor_half v ≡ whole) × (half_flag v ≡ true)
Holds (vector v splits_to_whole whole without_a_half) = (floor_half v ≡ whole) × (half_flag v ≡ false)
Holds (mean_of a and b and c and d is mean) = mean4 a b c d ≡ mean
Holds (p both_halves_at at give sample) =
    formed rounded (sample_at frame p.width p.height p.samples) at.0 at.1 (pos 1) (pos 1) ≡ sample
Holds (p bottom_field_is_empty_and_samples sample) =
    (field_lines Bottom p.height ≡ 0)
    × ((x y : ℤ) → sample_at (field Bottom) p.width p.height p.samples x y ≡ sample)
Holds (i is_always_refusal number) = (p : ℤ) → refusal_of (i p) ≡ number
Holds (i is_refusal number) = refusal_of i ≡ number
Holds (i gives_vector v) = (refusal_of i ≡ 0) × ((answer_of i).vector_prime ≡ v)
Holds (i gives_delta d and_vector v) = (refusal_of i ≡ 0) × ((answer_of i).delta ≡ d) × ((answer_of i).vector_prime ≡ v)
Holds (i gives_vector v and_new_predictor p) = (refusal_of i ≡ 0) × ((answer_of i).vector_prime ≡ v) × ((answer_of i).new_pmv ≡ p)
Holds (chroma_of v by format is chroma) = (chroma_horizontal format v.0 ≡ chroma.0) × (chroma_vertical format v.1 ≡ chroma.1)

-- ---- the table

abbrev pub cases : List Case
cases =
    -- src/combine_predictions.rs
    average_of 0 and 1 is 1
    ∷ average_of 255 and 255 is 255
    -- src/forming_predictions.rs
    ∷ vector − 3 splits_to_whole − 2 with_a_half
    ∷ vector − 4 splits_to_whole − 2 without_a_half
    ∷ mean_of 0 and 0 and 0 and 1 is 0
    ∷ mean_of 0 and 0 and 1 and 1 is 1
    ∷ plane_with_rows (10 ∷ 20 ∷ []) (30 ∷ 41 ∷ []) both_halves_at (pos 0, pos 0) give 25
    ∷ plane_with_rows (10 ∷ 20 ∷ []) (30 ∷ 41 ∷ []) both_halves_at (pos 1, pos 1) give 41
    ∷ plane_of_one_sample 7 bottom_field_is_empty_and_samples 7
    -- src/pmv.rs
    ∷ f_code 1 code pos 16 any_prior is_always_refusal 5
    ∷ f_code 1 code − 16 prior pos 0 gives_vector − 16
    ∷ f_code 1 code − 16 prior − 16 gives_vector pos 0
    ∷ f_code 2 code pos 3 residual 1 prior pos 30 gives_delta pos 6 and_vector − 28
    ∷ f_code 9 code − 16 residual 255 prior pos 0 gives_vector − 4096
    ∷ f_code 1 code pos 0 prior pos 47 gives_vector pos 15
    ∷ f_code 1 code pos 0 prior pos 48 is_refusal 6
    ∷ vertical_field_vector_in_frame_picture (f_code 1 code pos 0 prior − 3) gives_vector − 2 and_new_predictor − 4
    ∷ chroma_of (− 3, − 3) by Yuv420 is (− 1, − 1)
    ∷ chroma_of (− 3, − 3) by Yuv422 is (− 1, − 3)
    ∷ chroma_of (− 3, − 3) by Yuv444 is (− 3, − 3)
    ∷ []

-- ---- the claim: every row of the table holds

abbrev pub CasesHold : Type 0
CasesHold = All Holds cases
