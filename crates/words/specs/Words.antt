-- Tokens as words: a fixed token is its first byte, any other a base and its value. Assumes nothing.
use Rattle.std.specs.Prelude.{List, map, ℕ, ◌+◌, get_or}
use Rattle.grammar.specs.Tokens.{Token, mark, var, num, neg}
use Rattle.grammar.specs.Grammar.{Slot, Thousandths, slot_token, thousandths_token}

-- the word of a token
abbrev pub token_word : Token → ℕ
token_word (mark w) = get_or w 0 0
token_word (var n) = 256 + n
token_word (num n) = 2097152 + n
token_word (neg n) = 4194304 + n

-- of a slot's token
abbrev pub slot_word : Slot → ℕ
slot_word x = token_word (slot_token x)

-- of a bound's
abbrev pub thousandths_word : Thousandths → ℕ
thousandths_word l = token_word (thousandths_token l)

-- the words of tokens
abbrev pub words : List Token → List ℕ
words ts = map token_word ts
