-- The options of a TCP header (RFC 9293, section 3.2).
use Rattle.std.specs.Prelude.{ℕ, zero, suc, ◌+◌, ◌-◌, List, [], ◌∷◌, length, slice_index, Option, Some, None, if◌then◌else◌, nat_lt, ◌==◌, ◌||◌, ◌&&◌}
use Rattle.byteorder.specs.Endian.{big_from}

-- The maximum segment size that these options give, once as many bytes as are named are skipped. Kind 0 ends the options and kind 1 is
-- one byte. Every other kind has a length behind it: where that is below 2 or passes the end, the rest is ignored. The first option of
-- kind 2 and length 4 counts.
abbrev pub mss_after : ℕ → List ℕ → Option ℕ
mss_after skip [] = None
mss_after (suc skip) (kind ∷ rest) = mss_after skip rest
mss_after zero (kind ∷ rest) =
    if kind == 0 then None
    else if kind == 1 then mss_after 0 rest
    else if (nat_lt (length rest) 1 || nat_lt (slice_index rest 0) 2) || nat_lt (length rest + 1) (slice_index rest 0) then None
    else if kind == 2 && slice_index rest 0 == 4 then Some (big_from 1 2 rest)
    else mss_after (slice_index rest 0 - 1) rest

abbrev pub mss_of : List ℕ → Option ℕ
mss_of options = mss_after 0 options
