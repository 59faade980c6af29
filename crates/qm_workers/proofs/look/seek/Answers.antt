use Rattle.std.proofs.Common.{◌≡◌, ◌∙◌, ap, sym, suc, drop, get_or, refl, arith, add-one, Some}
use Rattle.qm_workers.specs.declared.look.Sought.TheVariants.{Here, Unknown}
use Rattle.qm_workers.specs.Known.{knowledge, told}
use Rattle.qm_workers.specs.Working.{sought}
use Rattle.qm_workers.proofs.Seeking.{sought-next, at-same, at-other, at-unknown, sought-end}
use Rattle.qm_workers.proofs.look.seek.Goals as goal

pub loop-place-init : goal.loop-place-init
loop-place-init g c = refl

pub returns-in-Some-true-clause-value : goal.returns-in-Some-true-clause-value
returns-in-Some-true-clause-value g c =
    let k = knowledge g.K.ByteString.bytes c.args.keys.now in
    let key = c.args.key.now in
    let bucket = c.bucket-bucket.result.now in
    let place = c.loop-place.place in
    let at = c.get-location.result in
    let is : at ≡ get_or bucket place at = c.get-location.ensures ∙ c.index-bucket-place.is ∙ ap (get_or bucket place) (sym c.get-location.ensures) in
    let same = ap Some (sym c.in-Some-true.field-0-test) ∙ sym c.in-Some-true.is ∙ c.is_of.ensures in
    sym (ap (sought k key 0) (sym c.bucket-bucket.ensures.value) ∙ c.loop-place.invariant ∙ sought-next k key place at bucket c.loop-place-test.true is
    ∙ at-same k key (told k at) (Here (record { place = place; location = at })) (Unknown at) (sought k key (suc place) (drop (suc place) bucket)) same)

pub loop-place-preserved : goal.loop-place-preserved
loop-place-preserved g c =
    let k = knowledge g.K.ByteString.bytes c.args.keys.now in
    let key = c.args.key.now in
    let bucket = c.bucket-bucket.result.now in
    let place = c.loop-place.place in
    let at = c.get-location.result in
    let is : at ≡ get_or bucket place at = c.get-location.ensures ∙ c.index-bucket-place.is ∙ ap (get_or bucket place) (sym c.get-location.ensures) in
    let other = ap Some (sym c.in-Some-false.field-0-test) ∙ sym c.in-Some-false.is ∙ c.is_of.ensures in
    c.loop-place.invariant ∙ sought-next k key place at bucket c.loop-place-test.true is
    ∙ at-other k key (told k at) (Here (record { place = place; location = at })) (Unknown at) (sought k key (suc place) (drop (suc place) bucket)) other
    ∙ ap (λ n. sought k key n (drop n bucket)) (sym (add-one place))

pub returns-in-None-clause-value : goal.returns-in-None-clause-value
returns-in-None-clause-value g c =
    let k = knowledge g.K.ByteString.bytes c.args.keys.now in
    let key = c.args.key.now in
    let bucket = c.bucket-bucket.result.now in
    let place = c.loop-place.place in
    let at = c.get-location.result in
    let is : at ≡ get_or bucket place at = c.get-location.ensures ∙ c.index-bucket-place.is ∙ ap (get_or bucket place) (sym c.get-location.ensures) in
    let none = sym c.in-None.is ∙ c.is_of.ensures in
    sym (ap (sought k key 0) (sym c.bucket-bucket.ensures.value) ∙ c.loop-place.invariant ∙ sought-next k key place at bucket c.loop-place-test.true is
    ∙ at-unknown k key (told k at) (Here (record { place = place; location = at })) (Unknown at) (sought k key (suc place) (drop (suc place) bucket)) none)

pub returns-clause-value : goal.returns-clause-value
returns-clause-value g c =
    let k = knowledge g.K.ByteString.bytes c.args.keys.now in
    let key = c.args.key.now in
    let bucket = c.bucket-bucket.result.now in
    sym (ap (sought k key 0) (sym c.bucket-bucket.ensures.value) ∙ c.loop-place.invariant ∙ sought-end k key c.loop-place.place bucket (omega (arith, c.loop-place-test.false)))
