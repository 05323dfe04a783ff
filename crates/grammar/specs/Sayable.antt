-- Programs that can be written: whole numbers below 2^32, constants that are fit, names numbered as they first come.
use Rattle.std.specs.Prelude.{◌≡◌, ℕ, suc, ◌<◌, List, [], ◌∷◌, length}
use Rattle.semantics.specs.Parts.{Part}
use Rattle.semantics.specs.Values.{Expr, name, input, constant, count, each, both, choose, fold, scan, shape_to, turn, part, join, rows}
use Rattle.semantics.specs.Programs.{Program, end, be, put, show, again}
use Rattle.grammar.specs.Constants.{canonical}

abbrev pub Small : ℕ → Type 0
Small k = k < 4294967296

pub data Smalls : List ℕ → Type 0 where
  none : Smalls []
  more : {k : ℕ} {ks : List ℕ} → Small k → Smalls ks → Smalls (k ∷ ks)

pub record SmallPart (p : Part) : Type 0 where
  pub from_small : Small p.from
  pub step_small : Small p.step
  pub many_small : Small p.many

pub data SmallParts : List Part → Type 0 where
  none : SmallParts []
  more : {p : Part} {ps : List Part} → SmallPart p → SmallParts ps → SmallParts (p ∷ ps)

-- where n names have come, name k comes: one of them, or the next; there are m now
pub data Comes : ℕ → ℕ → ℕ → Type 0 where
  known : {k n : ℕ} → k < n → Comes k n n
  new : {n : ℕ} → Comes n n (suc n)

-- an expression that can be written, with n names before it and m behind it
pub data Fits {Num : Type 0} (Ok : Num → Type 0) : Expr Num → ℕ → ℕ → Type 0 where
  fit_name : {k n m : ℕ} → Comes k n m → Fits Ok (name k) n m
  fit_input : {k n : ℕ} → Small k → Fits Ok (input k) n n
  fit_constant : {x : Num} {n : ℕ} → Ok x → Fits Ok (constant x) n n
  fit_count : {k n : ℕ} → Small k → Fits Ok (count k) n n
  fit_each : {k : _} {e : Expr Num} {n m : ℕ} → Fits Ok e n m → Fits Ok (each k e) n m
  fit_both : {k : _} {e f : Expr Num} {n m o : ℕ} → Fits Ok e n m → Fits Ok f m o → Fits Ok (both k e f) n o
  fit_choose : {e f g : Expr Num} {n m o q : ℕ} → Fits Ok e n m → Fits Ok f m o → Fits Ok g o q → Fits Ok (choose e f g) n q
  fit_fold : {k : _} {x : ℕ} {e : Expr Num} {n m : ℕ} → Small x → Fits Ok e n m → Fits Ok (fold k x e) n m
  fit_scan : {k : _} {x : ℕ} {e : Expr Num} {n m : ℕ} → Small x → Fits Ok e n m → Fits Ok (scan k x e) n m
  fit_shape : {t : List ℕ} {e : Expr Num} {n m : ℕ} → Smalls t → Fits Ok e n m → Fits Ok (shape_to t e) n m
  fit_turn : {os : List ℕ} {e : Expr Num} {n m : ℕ} → Smalls os → Fits Ok e n m → Fits Ok (turn os e) n m
  fit_part : {ps : List Part} {e : Expr Num} {n m : ℕ} → SmallParts ps → Fits Ok e n m → Fits Ok (part ps e) n m
  fit_join : {x : ℕ} {e f : Expr Num} {n m o : ℕ} → Small x → Fits Ok e n m → Fits Ok f m o → Fits Ok (join x e f) n o
  fit_rows : {e f : Expr Num} {n m o : ℕ} → Fits Ok e n m → Fits Ok f m o → Fits Ok (rows e f) n o

pub data FitLines {Num : Type 0} (Ok : Num → Type 0) : Program Num → ℕ → ℕ → Type 0 where
  fit_end : {n : ℕ} → FitLines Ok end n n
  fit_be : {k : ℕ} {e : Expr Num} {p : Program Num} {n m o q : ℕ} → Comes k n m → Fits Ok e m o → FitLines Ok p o q → FitLines Ok (be k e p) n q
  fit_put : {k : ℕ} {ps : List Part} {e : Expr Num} {p : Program Num} {n m o q : ℕ} → Comes k n m → SmallParts ps → Fits Ok e m o → FitLines Ok p o q → FitLines Ok (put k ps e p) n q
  fit_show : {e : Expr Num} {p : Program Num} {n m o : ℕ} → Fits Ok e n m → FitLines Ok p m o → FitLines Ok (show e p) n o
  fit_again : {k : ℕ} {b p : Program Num} {n m o : ℕ} → Small k → FitLines Ok b n m → FitLines Ok p m o → FitLines Ok (again k b p) n o

-- a constant as it is written: 16 digits
pub data Digits : List ℕ → Type 0 where
  none : Digits []
  more : {d : ℕ} {ds : List ℕ} → d < 16 → Digits ds → Digits (d ∷ ds)

pub record Sixteen (ds : List ℕ) : Type 0 where
  pub digits : Digits ds
  pub sixteen : length ds ≡ 16

-- a constant as it is read: a pattern of a number, or the one of no number
pub record Canonical (x : ℕ) : Type 0 where
  pub below : x < 0x10000000000000000
  pub itself : canonical x ≡ x
