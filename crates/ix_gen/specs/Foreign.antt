-- The frames of a generated play come from its clients.
use Rattle.std.specs.Prelude.{◌≡◌, ℕ, ◌*◌, Bool, map}
use Rattle.ix_pcap.specs.declared.writing.Sent.{Sent}
use Rattle.ix_playdef.specs.Own.{own_frame}
use Rattle.ix_gen.specs.Clients.{server_mac}
use Rattle.ix_gen.specs.Rounds.{frames_of}
use Rattle.ix_gen.specs.Wire.{none_own}

abbrev pub is_own : Sent → Bool
is_own sent = own_frame server_mac sent.frame

-- none of them is the server's own
abbrev pub FramesAreForeign : Type 0
FramesAreForeign = (number conns : ℕ) → map is_own (frames_of number conns) ≡ none_own (7 * conns)
