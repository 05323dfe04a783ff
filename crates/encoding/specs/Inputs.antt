-- What the reading of a row of inputs answers.
use Rattle.std.specs.Prelude.{◌≡◌, ℕ, ◌<◌, ◌≤◌, min, false, List, length, drop, slice_index}
use Rattle.encoding.specs.declared.header.Header.{Header}
use Rattle.encoding.specs.declared.inputs.BadInput.{BadInput}
use Rattle.encoding.specs.declared.inputs.Walk.{Walk}
use Rattle.encoding.specs.Format.{good_at, row_at, offsets, stop}
use Rattle.encoding.specs.Headers.{Heads, Flawed}

pub record AllGood (bs : List ℕ) (n : ℕ) : Type 0 where
  pub whole : stop bs ≡ length bs
  pub count : n ≡ length (offsets bs)

pub record BadAt (bs : List ℕ) (b : BadInput) : Type 0 where
  pub early : stop bs < length bs
  pub count : b.input ≡ length (offsets bs)
  pub why : Flawed bs (stop bs) b.flaw

pub record Found (bs : List ℕ) (k : ℕ) (h : Header) : Type 0 where
  pub there : k < length (offsets bs)
  pub heads : Heads bs (slice_index (offsets bs) k) h

-- a walk over at most so many inputs: the next begin where it ended
pub record Walked (bs : List ℕ) (most : ℕ) (w : Walk) : Type 0 where
  pub inside : w.at ≤ length bs
  pub count : w.count ≡ min most (length (offsets bs))
  pub rest : (row_at bs w.at).offsets ≡ drop w.count (offsets bs)
  pub stops : (row_at bs w.at).stop ≡ stop bs

-- over all of them
pub record WalkedAll (bs : List ℕ) (w : Walk) : Type 0 where
  pub inside : w.at ≤ length bs
  pub count : w.count ≡ length (offsets bs)
  pub stops : w.at ≡ stop bs
  pub none : good_at bs w.at ≡ false
