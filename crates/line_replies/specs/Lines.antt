-- The program at the end of "Checked values": "A program reads lines `work;type;input` .. and prints the number and, after 0, the
-- hex or text; a line with fewer than two semicolons, an unknown work, hex input that isn't whole pairs of hex digits, or more
-- than 1,024 octets prints `?`."
use Rattle.std.specs.Prelude.{ℕ, ◌+◌, ◌-◌, ◌*◌, ◌/◌, ◌%◌, Bool, true, false, ◌&&◌, cond, List, [], ◌∷◌, ◌++◌, leb, ltb, length, take, drop, Option, Some, None}
use Rattle.octets.specs.Octets.{bytes, eq_list}
use Rattle.octets.specs.Pieces.{span_to}
use Rattle.answers.specs.Outcomes.{Answer, done, refused}
use Rattle.answers.specs.Refusals.{number_of}
use Rattle.types.specs.Types.{no_limits}
use Rattle.exchanges.specs.Coding.{answer_of}
use Rattle.exchanges.specs.declared.entries.Entry.{Entry}

-- "more than 1,024 octets prints `?`": a line without its newline.
abbrev pub longest_line : ℕ
longest_line = 1024

-- A hex digit, in capitals.
unfoldable pub hex_digit : ℕ → ℕ
hex_digit n = cond (ltb n 10) (48 + n) (55 + n)

-- Octets in hex.
unfoldable pub to_hex : List ℕ → List ℕ
to_hex [] = []
to_hex (x ∷ l) = hex_digit (x / 16) ∷ hex_digit (x % 16) ∷ to_hex l

-- The number of a hex digit of either case, and 16 for any other octet.
unfoldable pub hex_number : ℕ → ℕ
hex_number c =
    cond (leb 48 c && leb c 57) (c - 48)
    (cond (leb 65 c && leb c 70) (c - 55)
    (cond (leb 97 c && leb c 102) (c - 87) 16))

-- One octet more in front.
abbrev pub in_front : ℕ → Option (List ℕ) → Option (List ℕ)
in_front x (Some l) = Some (x ∷ l)
in_front x None = None

-- "whole pairs of hex digits"
unfoldable pub from_hex : List ℕ → Option (List ℕ)
from_hex [] = Some []
from_hex (x ∷ []) = None
from_hex (x ∷ y ∷ l) = cond (ltb (hex_number x) 16 && ltb (hex_number y) 16) (in_front (hex_number x * 16 + hex_number y) (from_hex l)) None

-- `?`, and the end of the line.
abbrev pub unasked : List ℕ
unasked = bytes "?\n"

-- "the number and, after 0, the hex or text"
abbrev pub answer_shown : (List ℕ → List ℕ) → Answer → List ℕ
answer_shown show (done result bits) = bytes "0 " ++ show result ++ bytes "\n"
answer_shown show (refused why) = (48 + number_of why) ∷ bytes "\n"

-- "work per, der, unper or under"
unfoldable pub entry_named : List ℕ → Option Entry
entry_named work =
    cond (eq_list work (bytes "per")) (Some Entry.PerEncode)
    (cond (eq_list work (bytes "der")) (Some Entry.DerEncode)
    (cond (eq_list work (bytes "unper")) (Some Entry.PerDecode)
    (cond (eq_list work (bytes "under")) (Some Entry.DerDecode) None)))

-- Whether an entry point takes a text and gives octets.
abbrev pub gives_octets : Entry → Bool
gives_octets Entry.PerEncode = true
gives_octets Entry.PerDecode = false
gives_octets Entry.DerEncode = true
gives_octets Entry.DerDecode = false

-- "hex input for the last two"
abbrev pub input_of : Bool → List ℕ → Option (List ℕ)
input_of true input = Some input
input_of false input = from_hex input

-- "the hex or text"
abbrev pub result_shown : Bool → List ℕ → List ℕ
result_shown true octets = to_hex octets
result_shown false text = text

-- The reply of an entry point, where there is an input.
abbrev pub replied_by : Entry → List ℕ → Option (List ℕ) → List ℕ
replied_by e settings (Some input) = answer_shown (result_shown (gives_octets e)) (answer_of e settings no_limits input)
replied_by e settings None = unasked

-- The reply to a type's text and an input, where an entry point is named.
abbrev pub asked_of : Option Entry → List ℕ → List ℕ → List ℕ
asked_of (Some e) settings input = replied_by e settings (input_of (gives_octets e) input)
asked_of None settings input = unasked

-- The reply to a work, a type's text and an input.
unfoldable pub worked : List ℕ → List ℕ → List ℕ → List ℕ
worked work settings input = asked_of (entry_named work) settings input

-- What follows the first semicolon, cut at its own first one.
unfoldable pub cut_again : List ℕ → List ℕ → List ℕ
cut_again work rest =
    cond (ltb (span_to 59 rest) (length rest)) (worked work (take (span_to 59 rest) rest) (drop (span_to 59 rest + 1) rest)) unasked

-- The reply to a line, with its newline.
unfoldable pub reply_of : List ℕ → List ℕ
reply_of line =
    cond (leb (length line) longest_line && ltb (span_to 59 line) (length line))
    (cut_again (take (span_to 59 line) line) (drop (span_to 59 line + 1) line)) unasked
