-- The configuration and the script of a generated play. Formats: docs/GEN.md.
use Rattle.std.specs.Prelude.{ℕ, ◌+◌, ◌-◌, ◌*◌, ◌%◌, List, ◌++◌, codes}
use Rattle.std.specs.Fmt.{decimal}

-- the configuration, the same for each number
unfoldable pub conf_text : List ℕ
conf_text = codes "[local]\nmac = \"02:00:00:00:00:01\"\nip = \"161.142.100.80\"\nport = 1766\napp = \"echo\"\n\n[core]\ncores = 4\nbuffers = 4096\n"

-- a round of one frame of each client, and its settle
unfoldable pub round_lines : ℕ → ℕ → List ℕ
round_lines conns round =
    codes "frames " ++ decimal (round * conns) ++ codes " " ++ decimal (round * conns + conns - 1) ++ codes "\nsettle\n"

-- the class that is moved behind a round of data
unfoldable pub class_behind : ℕ → ℕ → ℕ
class_behind number round = (16 * round + number) % 128

-- a class goes from the core on which it begins to the next of the four
unfoldable pub move_lines : ℕ → List ℕ
move_lines place =
    codes "tag " ++ decimal place ++ codes "\nmove " ++ decimal place ++ codes " " ++ decimal ((place + 1) % 4) ++ codes "\n"

-- the SYNs, the ACKs, four rounds of data, each with its move, and the last ACKs
unfoldable pub script_text : ℕ → ℕ → List ℕ
script_text number conns =
    round_lines conns 0 ++ round_lines conns 1
    ++ (round_lines conns 2 ++ move_lines (class_behind number 0))
    ++ (round_lines conns 3 ++ move_lines (class_behind number 1))
    ++ (round_lines conns 4 ++ move_lines (class_behind number 2))
    ++ (round_lines conns 5 ++ move_lines (class_behind number 3))
    ++ round_lines conns 6
