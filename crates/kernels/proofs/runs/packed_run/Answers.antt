use Rattle.std.proofs.Common.{arith, rules}
use Rattle.kernels.proofs.InPlace.{lined_short, words_end, run_bytes_end, words_run, bytes_run}
use Rattle.kernels.proofs.runs.packed_run.Goals as goal

pub overflow_add-at : goal.overflow_add-at
overflow_add-at c = record { fits = omega (arith, lined_short c.requires) }

pub overflow_add-at-in-Area : goal.overflow_add-at-in-Area
overflow_add-at-in-Area c = record { fits = omega (arith, words_end c.requires c.in-Area.is) }

pub offset_bounds-env-at : goal.offset_bounds-env-at
offset_bounds-env-at c = let h = words_end c.requires c.in-Area.is in search rules

pub slice_bounds-no_nans-end : goal.slice_bounds-no_nans-end
slice_bounds-no_nans-end c = let h = words_end c.requires c.in-Area.is in search rules

pub overflow_mul-from : goal.overflow_mul-from
overflow_mul-from c = record { fits = omega (arith, run_bytes_end c.requires c.in-Input.is) }

pub overflow_add-from : goal.overflow_add-from
overflow_add-from c = record { fits = omega (arith, run_bytes_end c.requires c.in-Input.is) }

pub no_nan_bytes-requires : goal.no_nan_bytes-requires
no_nan_bytes-requires c = run_bytes_end c.requires c.in-Input.is

pub returns-then-no_nans : goal.returns-then-no_nans
returns-then-no_nans c = words_run c.requires c.in-Area.is (c.no_nans.ensures c.if-no_nans.true)

pub returns-then-no_nan_bytes : goal.returns-then-no_nan_bytes
returns-then-no_nan_bytes c = bytes_run c.requires c.in-Input.is (c.no_nan_bytes.ensures c.if-no_nan_bytes.true)
