-- The loops over the lines of a settle and over the frames that are out.
use Rattle.std.proofs.Common.{◌≡◌, ℕ, ◌+◌, ◌<◌, ◌≤◌, sym, ap, ◌∙◌, Bool, true, false, List, [], ◌∷◌, ◌++◌, length, map, drop, get_or, append_assoc, append-nil}
use Rattle.std.specs.Prelude.{◌&&◌, not, Option}
use Rattle.std.specs.List.{list_any}
use Rattle.std.proofs.lemmas.List.{drop_more, drop_all}
use Rattle.ix_base.specs.declared.id.BufId.{BufId}
use Rattle.ix_lines.specs.declared.types.EntryLine.{EntryLine}
use Rattle.ix_lines.specs.declared.types.HomeLine.{HomeLine}
use Rattle.ix_fits.specs.Journals.{buffer_of}
use Rattle.ix_fits.specs.Owners.{are_apart, buffers_of, same_buffer}
use Rattle.ix_out.specs.declared.frames_out.OutFrame.{OutFrame}
use Rattle.ix_out.specs.Out.{are_homes_of, is_home_of, number_out}

pub homes-next : (entries : List EntryLine) (outs : List OutFrame) (i : ℕ) (hs : List HomeLine) (d : HomeLine) → i < length hs → is_home_of entries outs i (get_or hs i d) ≡ true
    → are_homes_of entries outs i (drop i hs) ≡ are_homes_of entries outs (i + 1) (drop (i + 1) hs)
homes-next entries outs i hs d lt fits =
    ap (are_homes_of entries outs i) (drop_more hs i d lt) ∙ ap (λ (b : Bool). b && are_homes_of entries outs (i + 1) (drop (i + 1) hs)) fits

pub homes-not : (entries : List EntryLine) (outs : List OutFrame) (i : ℕ) (hs : List HomeLine) (d : HomeLine) → i < length hs → is_home_of entries outs i (get_or hs i d) ≡ false
    → are_homes_of entries outs i (drop i hs) ≡ false
homes-not entries outs i hs d lt fails =
    ap (are_homes_of entries outs i) (drop_more hs i d lt) ∙ ap (λ (b : Bool). b && are_homes_of entries outs (i + 1) (drop (i + 1) hs)) fails

pub homes-end : (entries : List EntryLine) (outs : List OutFrame) (i : ℕ) (hs : List HomeLine) → length hs ≤ i → are_homes_of entries outs i (drop i hs) ≡ true
homes-end entries outs i hs le = ap (are_homes_of entries outs i) (drop_all i hs le)

pub ruleset for_homes = (homes-next, homes-not, homes-end)

pub buffers-next : (entries : List EntryLine) (i : ℕ) (outs : List OutFrame) (d : OutFrame) (done more : List (Option BufId)) → i < length outs
    → more ≡ done ++ buffer_of entries (get_or outs i d).w.0 ∷ []
    → done ++ buffers_of entries (map number_out (drop i outs)) ≡ more ++ buffers_of entries (map number_out (drop (i + 1) outs))
buffers-next entries i outs d done more lt put =
    ap (λ xs. done ++ buffers_of entries (map number_out xs)) (drop_more outs i d lt)
    ∙ sym (append_assoc done (buffer_of entries (get_or outs i d).w.0 ∷ []) (buffers_of entries (map number_out (drop (i + 1) outs))))
    ∙ ap (λ (bs : List (Option BufId)). bs ++ buffers_of entries (map number_out (drop (i + 1) outs))) (sym put)

pub buffers-end : (entries : List EntryLine) (i : ℕ) (outs : List OutFrame) (done : List (Option BufId)) → length outs ≤ i → done ++ buffers_of entries (map number_out (drop i outs)) ≡ done
buffers-end entries i outs done le = ap (λ xs. done ++ buffers_of entries (map number_out xs)) (drop_all i outs le) ∙ append-nil done

pub ruleset for_buffers = (buffers-next, buffers-end)

pub apart-next : (bs : List (Option BufId)) (i : ℕ) (d : Option BufId) → i < length bs → list_any (same_buffer (get_or bs i d)) (drop (i + 1) bs) ≡ false → are_apart (drop i bs) ≡ are_apart (drop (i + 1) bs)
apart-next bs i d lt none = ap are_apart (drop_more bs i d lt) ∙ ap (λ (b : Bool). not b && are_apart (drop (i + 1) bs)) none

pub apart-not : (bs : List (Option BufId)) (i : ℕ) (d : Option BufId) → i < length bs → list_any (same_buffer (get_or bs i d)) (drop (i + 1) bs) ≡ true → are_apart (drop i bs) ≡ false
apart-not bs i d lt some = ap are_apart (drop_more bs i d lt) ∙ ap (λ (b : Bool). not b && are_apart (drop (i + 1) bs)) some

pub apart-end : (bs : List (Option BufId)) (i : ℕ) → length bs ≤ i → are_apart (drop i bs) ≡ true
apart-end bs i le = ap are_apart (drop_all i bs le)

pub ruleset for_apart = (apart-next, apart-not, apart-end)
