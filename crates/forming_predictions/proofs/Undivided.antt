-- What `undivided` sees: a division or a remainder wherever it stands, and a call of what the list does not have.
-- Assumes nothing.
use mathlib.Core.Path.{◌≡◌, refl}
use mathlib.Core.Bool.{Bool, true, false, ◌&&◌}
use mathlib.Core.List.{List, []}
use Prim.Native.Nat.{ℕ}
use mir.Syntax.{Symbol, Callee, Place, Opd, Sign, Op2, Sig, Body, Arms, op2, seq, assign, block, loop, cond, switch, call, call_v, arm, default, fn, method, forked, awaited, prim}
use mir.Syntax as S
use Rattle.forming_predictions.specs.Undivided.{is_division, undivided, undivided_arms}

module _ (ns : List Symbol) (p : Place) (x y : Opd) where
  pub division : (s : Sign) → undivided ns (assign p (op2 (S.div s) x y)) ≡ false
  division s = refl

  pub remainder : (s : Sign) → undivided ns (assign p (op2 (S.rem s) x y)) ≡ false
  remainder s = refl

  pub float_division : undivided ns (assign p (op2 S.float_div x y)) ≡ false
  float_division = refl

  pub float_remainder : undivided ns (assign p (op2 S.float_rem x y)) ≡ false
  float_remainder = refl

  -- likewise of the lanes of vectors, whatever the operator
  pub of_lanes : (o : Op2) → is_division o ≡ true → undivided ns (assign p (op2 (S.map2 o) x y)) ≡ false
  of_lanes o h = rw h

  pub of_masks : (o : Op2) → is_division o ≡ true → undivided ns (assign p (op2 (S.mask o) x y)) ≡ false
  of_masks o h = rw h

  pub of_folds : (o : Op2) → is_division o ≡ true → undivided ns (assign p (op2 (S.fold o) x y)) ≡ false
  of_folds o h = rw h

-- ---- what is seen in a part is seen in the whole

and_false : (b : Bool) → (b && false) ≡ false
and_false true = refl
and_false false = refl

module _ (ns : List Symbol) (a : Body) (h : undivided ns a ≡ false) where
  pub in_first : (b : Body) → undivided ns (seq a b) ≡ false
  in_first b = rw h

  pub in_second : (b : Body) → undivided ns (seq b a) ≡ false
  in_second b = rw h (and_false (undivided ns b))

  pub in_block : undivided ns (block a) ≡ false
  in_block = h

  pub in_loop : undivided ns (loop a) ≡ false
  in_loop = h

  pub in_then : (x : Opd) (b : Body) → undivided ns (cond x a b) ≡ false
  in_then x b = rw h

  pub in_else : (x : Opd) (b : Body) → undivided ns (cond x b a) ≡ false
  in_else x b = rw h (and_false (undivided ns b))

  pub in_arm : (x : Opd) (ks : List ℕ) (rest : Arms) → undivided ns (switch x (arm ks a rest)) ≡ false
  in_arm x ks rest = rw h

  pub in_default : (x : Opd) → undivided ns (switch x (default a)) ≡ false
  in_default x = h

pub in_later_arm : (ns : List Symbol) (rest : Arms) → undivided_arms ns rest ≡ false
    → (x : Opd) (ks : List ℕ) (b : Body) → undivided ns (switch x (arm ks b rest)) ≡ false
in_later_arm ns rest h x ks b = rw h (and_false (undivided ns b))

-- a function that is not in the list, however it is named
pub other_call : (f : Callee) (xs : List Opd) (p : Place) → undivided [] (call f xs p) ≡ false
other_call (fn n a) xs p = refl
other_call (method d n a) xs p = refl
other_call (forked ts f) xs p = refl
other_call (awaited ts) xs p = refl
other_call (prim a) xs p = refl

-- one that is called by its address, whatever the list
pub unnamed_call : (ns : List Symbol) (f : Opd) (s : Sig) (xs : List Opd) (p : Place) → undivided ns (call_v f s xs p) ≡ false
unnamed_call ns f s xs p = refl
