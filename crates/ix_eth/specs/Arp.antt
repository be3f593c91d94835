-- The address resolution protocol (RFC 826), for IPv4 over Ethernet: a request for this machine's address is answered.
use Rattle.std.specs.Prelude.{ℕ, List, [], ◌∷◌, ◌++◌, length, take, drop, Bool, ◌&&◌, Option, Some, None, if◌then◌else◌, nat_le, nat_eq, ◌==◌}
use Rattle.std.specs.List.{starts_with}
use Rattle.byteorder.specs.Endian.{big_from, big_bytes}
use Rattle.ix_base.specs.declared.frame.Local.{Local}
use Rattle.ix_eth.specs.Ethernet.{Ethernet, is_for, ethernet_header}

-- What a request for an IPv4 address over Ethernet begins with: hardware type 1, protocol type 0800, address lengths 6 and 4,
-- operation 1.
abbrev pub request_start : List ℕ
request_start = 0 ∷ 1 ∷ 8 ∷ 0 ∷ 6 ∷ 4 ∷ 0 ∷ 1 ∷ []

-- whether an ARP packet asks which hardware address has this IPv4 address, by its target protocol address
unfoldable pub is_request_for : ℕ → List ℕ → Bool
is_request_for ip packet =
    nat_le 28 (length packet) && starts_with nat_eq packet request_start && big_from 24 4 packet == ip

-- the frame that tells this machine's addresses to whom these hardware and protocol addresses belong
abbrev pub arp_reply : Local → List ℕ → List ℕ → List ℕ
arp_reply local mac ip =
    ethernet_header mac local.mac 0x0806 ++ (0 ∷ 1 ∷ 8 ∷ 0 ∷ 6 ∷ 4 ∷ 0 ∷ 2 ∷ []) ++ local.mac ++ big_bytes 4 local.ip ++ mac ++ ip

-- The answer to a frame: one for a request for this machine's address in a frame of type 0806 that is meant for this machine, made
-- for the request's sender addresses; else none.
unfoldable pub arp_answer_of : Local → Ethernet → Option (List ℕ)
arp_answer_of local frame =
    if is_for local.mac frame && frame.kind == 0x0806 && is_request_for local.ip frame.rest
    then Some (arp_reply local (take 6 (drop 8 frame.rest)) (take 4 (drop 14 frame.rest)))
    else None
