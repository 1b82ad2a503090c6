-- What it is for code to hold neither a division nor a remainder (docs/changes/07-halving.md). It is said of the code as the compiler takes it
-- (a function's `Code`), which has each operator that runs; constants and lengths of arrays are numbers there. Nothing here is the standard's or the scope's.
-- The proofs of `split_vector`, `split_component`, `whole_part` and `is_half` each have `undivided` of the function's own code.
use Rattle.std.specs.Prelude.{Bool, true, false, not, ◌&&◌, ◌||◌, List, [], ◌∷◌}
use lib.Text.{eqt}
use mir.Syntax.{Symbol, Callee, Op2, Rv, Body, Arms, rv_opd, op2, op1, addr_of, aggregate, repeat, repeat_p, select, skip, seq, assign, block, loop, cond, switch, exit, return, call, unreachable, call_v, lend_static, arm, default, no_default, fn, method, forked, awaited, prim}
use mir.Syntax as S

-- a division or a remainder, of integers, of floats or of the lanes of vectors; each operator is named, so that none is passed over
abbrev pub is_division : Op2 → Bool
is_division (S.div s) = true
is_division (S.rem s) = true
is_division S.float_div = true
is_division S.float_rem = true
is_division (S.map2 o) = is_division o
is_division (S.mask o) = is_division o
is_division (S.fold o) = is_division o
is_division (S.add s) = false
is_division (S.sub s) = false
is_division (S.mul s) = false
is_division S.bit_and = false
is_division S.bit_or = false
is_division S.bit_xor = false
is_division S.shl = false
is_division (S.shr s) = false
is_division S.eq = false
is_division S.ne = false
is_division (S.lt s) = false
is_division (S.le s) = false
is_division S.with_addr = false
is_division S.offset = false
is_division S.ptr_eq = false
is_division S.ptr_ne = false
is_division S.ptr_lt = false
is_division S.ptr_le = false
is_division S.float_add = false
is_division S.float_sub = false
is_division S.float_mul = false
is_division S.float_eq = false
is_division S.float_ne = false
is_division S.float_lt = false
is_division S.float_le = false
is_division S.wrap_add = false
is_division S.wrap_sub = false
is_division S.wrap_mul = false
is_division (S.shuffle ns) = false
is_division (S.swizzle n) = false
is_division S.dot4 = false

-- a value that is computed by one
abbrev pub divides : Rv → Bool
divides (op2 o x y) = is_division o
divides (rv_opd x) = false
divides (op1 o x) = false
divides (addr_of p) = false
divides (aggregate xs) = false
divides (repeat x n) = false
divides (repeat_p x n) = false
divides (select x y z) = false

abbrev pub is_among : List Symbol → Symbol → Bool
is_among [] n = false
is_among (m ∷ ms) n = eqt m n || is_among ms n

-- a call of a function of the list: a trait's method is not known, and a thread's start and join and the steps that threads share are not
-- calls of one
abbrev pub is_call_of : List Symbol → Callee → Bool
is_call_of ns (fn n xs) = is_among ns n
is_call_of ns (method d n xs) = false
is_call_of ns (forked ts f) = false
is_call_of ns (awaited ts) = false
is_call_of ns (prim a) = false

-- no division or remainder stands anywhere in the code, and each function that it calls is one of these; one that is called by its address
-- might be another
abbrev mutual
  pub undivided : List Symbol → Body → Bool
  undivided ns skip = true
  undivided ns (seq a b) = undivided ns a && undivided ns b
  undivided ns (assign p v) = not (divides v)
  undivided ns (block a) = undivided ns a
  undivided ns (loop a) = undivided ns a
  undivided ns (cond x a b) = undivided ns a && undivided ns b
  undivided ns (switch x a) = undivided_arms ns a
  undivided ns (exit n) = true
  undivided ns return = true
  undivided ns (call f xs p) = is_call_of ns f
  undivided ns unreachable = true
  undivided ns (call_v f s xs p) = false
  undivided ns (lend_static p t k) = true

  pub undivided_arms : List Symbol → Arms → Bool
  undivided_arms ns (arm ks a b) = undivided ns a && undivided_arms ns b
  undivided_arms ns (default a) = undivided ns a
  undivided_arms ns no_default = true
