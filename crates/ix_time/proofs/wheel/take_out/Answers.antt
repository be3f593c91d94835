use Rattle.std.proofs.Common.{◌∙◌, sym, refl}
use Rattle.ix_time.proofs.WheelLemmas.{kept-last, kept-moved, ticks-moved}
use Rattle.ix_time.proofs.wheel.take_out.Goals as goal

pub returns-in-Some-clause-kept : goal.returns-in-Some-clause-kept
returns-in-Some-clause-kept c =
    λ clock loose.
    kept-moved clock c.args.standings.now c.replace.new.self c.args.places.now.items c.swap_out.new.places.items c.args.place c.args.index (c.in-Some.key, c.in-Some.tick) loose
    c.swap_out.ensures.rest c.swap_out.ensures.len (sym c.swap_out.ensures.there ∙ c.in-Some.is) c.replace.ensures

pub returns-in-Some-clause-ticks : goal.returns-in-Some-clause-ticks
returns-in-Some-clause-ticks c =
    λ clock loose.
    ticks-moved clock c.args.standings.now c.replace.new.self c.args.places.now.items c.swap_out.new.places.items c.args.place c.args.index (c.in-Some.key, c.in-Some.tick) loose
    c.swap_out.ensures.rest (sym c.swap_out.ensures.there ∙ c.in-Some.is) c.replace.ensures

pub returns-in_default-clause-kept : goal.returns-in_default-clause-kept
returns-in_default-clause-kept c =
    λ clock loose.
    kept-last clock c.args.standings.now c.args.standings.now c.args.places.now.items c.swap_out.new.places.items c.args.place c.args.index loose
    c.swap_out.ensures.rest c.swap_out.ensures.len (sym c.swap_out.ensures.there ∙ c.in_default.is) (λ q. refl)
