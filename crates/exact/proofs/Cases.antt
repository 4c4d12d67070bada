-- THE THEOREM of the P cases, `cases`, whose statement is `Cases` of specs/: every row comes out by
-- computing. Assumes nothing.
use Rattle.std.specs.Prelude.{refl}
use Rattle.std.specs.Float.Ieee.{of_bits, to_bits}
use Rattle.keys.specs.Keys.{toggle, clear, bit_at, order, same}
use Rattle.keys.specs.Lists.{All}
use Rattle.merge.specs.Addresses.{addresses}
use Rattle.merge.specs.Records.{part, counted, record_at, amplitude_of, finite_record, decode, encode, flat, at, capacity}
use Rattle.merge.specs.Sorting.{side, only}
use Rattle.amplitudes.specs.Amplitudes.{times, over, near_one}
use Rattle.amplitudes.specs.Pairs.{accumulated}
use Rattle.dense.specs.Dense.{dense_call, dense_from}
use Rattle.state.specs.Laws.{fresh-estimate, empty-estimate}
use Rattle.estimates.specs.Estimates.{collapse_call, pair_at}
use Rattle.state.specs.Fresh.{fresh_call, fresh_state, fresh_record}
use Rattle.gates.specs.Gate.{gate_call, gated, gate_words, result_tests, gate_part, gate_finite}
use Rattle.measurement.specs.Measurement.{measure_call, measured, measured_state, divided}
use Rattle.statevector.specs.Refusals.{first}
use Rattle.exact.specs.Cases.{Holds, rows, Cases}

rows-hold : All Holds rows
unfolding fresh_call fresh_state fresh_record gate_call gated gate_words result_tests gate_part gate_finite measure_call measured measured_state divided dense_call dense_from collapse_call pair_at first part counted record_at amplitude_of finite_record decode encode flat at capacity side only addresses toggle clear bit_at order same of_bits to_bits times accumulated over near_one
rows-hold = (refl, (refl, (refl, (refl, (refl, (refl, (refl, (refl, (refl, (refl, (refl, tt)))))))))))

pub cases : Cases
cases = record { table = rows-hold; of-fresh = fresh-estimate; of-empty = empty-estimate }
