use Rattle.std.proofs.Common.{◌≡◌, ◌∙◌, ℕ, ap, get_or}
use Rattle.std.specs.Prelude.{Some}
use Rattle.std.specs.Option.{option_or}
use Rattle.ix_playdef.specs.declared.order.Reply.{Reply}
use Rattle.ix_places.specs.Told.{key_with, number_in, number_of_one, places_by, told_number, turn_of}
use Rattle.ix_places.specs.declared.turn.Turn.{Turn}
use Rattle.ix_places.proofs.KeyLaws.{first-is, map-end, map-one, told-next}
use Rattle.ix_places.proofs.told.told_keys.Goals as goal

pub loop-i-preserved : goal.loop-i-preserved
loop-i-preserved c =
    let x : Reply = c.index-replies-i.result in
    let n : ℕ = get_or c.args.numbers.now c.loop-i.i 0 in
    let turn : c.turn_of.result ≡ turn_of (get_or c.args.replies.now c.loop-i.i x).key = c.turn_of.ensures ∙ ap (λ (r : Reply). turn_of r.key) c.index-replies-i.is in
    let first : told_number c.args.numbers.now c.args.replies.now (turn_of (get_or c.args.replies.now c.loop-i.i x).key) ≡ Some c.in_ok-first.first =
    first-is c.args.numbers.now c.args.replies.now c.loop-i.i x (number_in c.loop-i.firsts) c.in_ok-first.first c.loop-i-test.true c.requires
    (c.in_ok-first.ensures.first ∙ ap (λ (t : Turn). option_or (number_in c.loop-i.firsts t) (Some n)) turn) c.loop-i.invariant.told in
    record {
      told =
          told-next c.args.numbers.now c.args.replies.now c.loop-i.i x (number_in c.loop-i.firsts) (number_in c.first.new.self) c.loop-i-test.true c.requires
          (λ other. c.in_ok-first.ensures.kept other ∙ ap (λ (t : Turn). option_or (number_in c.loop-i.firsts other) (number_of_one t n other)) turn) c.loop-i.invariant.told;
      keys = λ end.
          c.in_ok-push.ensures.items
          ∙ map-one (λ (r : Reply). key_with (places_by (told_number c.args.numbers.now c.args.replies.now) end) r.key) c.args.replies.now c.loop-i.i x c.loop-i.keys.items c.told_key.result
          c.loop-i-test.true (c.loop-i.invariant.keys end)
          (c.told_key.ensures (told_number c.args.numbers.now c.args.replies.now) end (ap (λ (r : Reply). told_number c.args.numbers.now c.args.replies.now (turn_of r.key)) c.index-replies-i.is ∙ first)
          ∙ ap (λ (r : Reply). key_with (places_by (told_number c.args.numbers.now c.args.replies.now) end) r.key) c.index-replies-i.is);
    }

pub returns : goal.returns
returns c = λ end.
    map-end (λ (r : Reply). key_with (places_by (told_number c.args.numbers.now c.args.replies.now) end) r.key) c.args.replies.now c.loop-i.i c.loop-i.keys.items c.loop-i-test.false
    (c.loop-i.invariant.keys end)
