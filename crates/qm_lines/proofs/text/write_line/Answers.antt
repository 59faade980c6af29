use Rattle.qm_lines.proofs.text.write_line.Goals as goal

pub returns-in-Batch : goal.returns-in-Batch
returns-in-Batch g c = rw c.in-Batch.is c.write_number.ensures

pub returns-in-Applied : goal.returns-in-Applied
returns-in-Applied g c = rw c.in-Applied.is c.write_number-in-Applied.ensures

pub returns-in-Ops : goal.returns-in-Ops
returns-in-Ops g c = rw c.in-Ops.is (rw c.deref.ensures.value at c.write_listed.ensures)

pub returns-in-Evicted : goal.returns-in-Evicted
returns-in-Evicted g c = rw c.in-Evicted.is (rw c.deref-in-Evicted.ensures.value at c.write_pairs.ensures)

pub returns-in-Read : goal.returns-in-Read
returns-in-Read g c = rw c.in-Read.is (rw c.deref-in-Read.ensures.value at c.write_read.ensures)

pub returns-in-Expanded : goal.returns-in-Expanded
returns-in-Expanded g c = rw c.in-Expanded.is (rw c.deref-in-Expanded.ensures.value at c.write_expanded.ensures)

pub returns-in-Neighbour : goal.returns-in-Neighbour
returns-in-Neighbour g c = rw c.in-Neighbour.is c.write_neighbour.ensures

pub returns-in-Span : goal.returns-in-Span
returns-in-Span g c = rw c.in-Span.is c.write_span.ensures

pub returns-in-All : goal.returns-in-All
returns-in-All g c = rw c.in-All.is c.write_whole.ensures

pub returns-in-Range : goal.returns-in-Range
returns-in-Range g c = rw c.in-Range.is (rw c.deref-in-Range.ensures.value at c.write_pairs-in-Range.ensures)

pub returns-in-Keys : goal.returns-in-Keys
returns-in-Keys g c = rw c.in-Keys.is (rw c.deref-in-Keys.ensures.value at c.write_keys.ensures)

pub returns-in-Root : goal.returns-in-Root
returns-in-Root g c = rw c.in-Root.is c.write_roots.ensures

pub returns-in-Meta : goal.returns-in-Meta
returns-in-Meta g c = rw c.in-Meta.is c.write_optional.ensures

pub returns-in-Proof : goal.returns-in-Proof
returns-in-Proof g c = rw c.in-Proof.is (rw (c.deref-in-Proof.ensures.value, c.deref-in-Proof-2.ensures.value) at c.write_proved.ensures)

pub returns-in-BatchProof : goal.returns-in-BatchProof
returns-in-BatchProof g c = rw c.in-BatchProof.is (rw (c.deref-in-BatchProof.ensures.value, c.deref-in-BatchProof-2.ensures.value) at c.write_batch_proof.ensures)

pub returns-in-Pins : goal.returns-in-Pins
returns-in-Pins g c = rw c.in-Pins.is (rw c.deref-in-Pins.ensures.value at c.write_pins.ensures)

pub returns-in-Refused : goal.returns-in-Refused
returns-in-Refused g c = rw c.in-Refused.is c.write_refused.ensures
