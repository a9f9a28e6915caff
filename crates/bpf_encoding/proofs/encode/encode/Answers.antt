use Rattle.std.proofs.Common.{◌≡◌, length, refl, ap, sym, ◌∙◌, arith, rules, length-append}
use Rattle.bpf_encoding.proofs.Written.{slots_go_on, written_is_spelled}
use Rattle.bpf_encoding.proofs.encode.encode.Goals as goal

pub loop-place-init : goal.loop-place-init
loop-place-init c = record { long = ap length c.in_ok-bytes.ensures.items; slots = refl }

pub loop-place-preserved : goal.loop-place-preserved
loop-place-preserved c =
    let l = c.loop-place in
    let eight : length c.to_bytes.result ≡ 8 = search rules in
    rw (c.in_ok-extend_from_slice.ensures.items, c.high_behind-high.ensures) (record {
      long = omega (arith, length-append l.bytes.items c.to_bytes.result, l.invariant.long, eight);
      slots = slots_go_on l.place-index c.places-places.result.now _ l.bytes.items c.to_bytes.result l.high _
          c.loop-place-test.true l.invariant.long eight (c.to_bytes.ensures ∙ c.slot_at.ensures.fields) l.invariant.slots;
    })

pub returns : goal.returns
returns c =
    let l = c.loop-place in
    rw (sym c.places-places.ensures.value) (written_is_spelled l.place-index l.bytes.items c.places-places.result.now
    l.high c.loop-place-test.false l.auto.place-index-end l.invariant.long (rw c.places-places.ensures.value
    c.places-places.ensures.code) l.invariant.slots)
