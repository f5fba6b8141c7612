-- Records and tables: the fields of a record, which records are sound, the facts of a table (document 01, "Trust and facts").
-- The refusals of a table are in Check. A record is read as one number of 72 bits. Assumes nothing.
use Rattle.std.specs.Prelude.{Bool, ◌&&◌, ◌||◌, not, cond, List, [], ◌∷◌, ℕ, ◌+◌, ◌*◌, ◌/◌, ◌%◌, ◌^◌, eqb, leb, ltb, length, take, drop}
use Rattle.tsparql.specs.Lists.{concat_map, up_from}
use Rattle.tsparql.specs.Values.{Trust, known, unknown}

-- what a record says: a triple with a trust
pub record Fact : Type 0 where
  pub subject : ℕ
  pub predicate : ℕ
  pub object : ℕ
  pub trust : Trust

-- two facts have one triple
abbrev pub same_triple : Fact → Fact → Bool
same_triple f g = eqb f.subject g.subject && eqb f.predicate g.predicate && eqb f.object g.object

-- ---- a record's bits

-- bytes as one number behind n, most significant first
unfoldable pub big_endian : ℕ → List ℕ → ℕ
big_endian n [] = n
big_endian n (b ∷ bs) = big_endian (n * 256 + b) bs

-- how many bytes a record has
abbrev pub record_length : ℕ
record_length = 9

-- the bytes of record i, counted from 0
abbrev pub record_bytes : List ℕ → ℕ → List ℕ
record_bytes t i = take record_length (drop (record_length * i) t)

-- record i as one number
unfoldable pub record_at : List ℕ → ℕ → ℕ
record_at t i = big_endian 0 (record_bytes t i)

-- from the most significant bit: subject, predicate, object of 20 bits each, a known bit, 11 bits of trust plus 1000
abbrev pub subject_of : ℕ → ℕ
subject_of x = x / 2 ^ 52

abbrev pub predicate_of : ℕ → ℕ
predicate_of x = x / 2 ^ 32 % 2 ^ 20

abbrev pub object_of : ℕ → ℕ
object_of x = x / 2 ^ 12 % 2 ^ 20

abbrev pub known_bit : ℕ → ℕ
known_bit x = x / 2 ^ 11 % 2

abbrev pub trust_field : ℕ → ℕ
trust_field x = x % 2 ^ 11

abbrev pub trust_of : ℕ → Trust
trust_of x = cond (eqb (known_bit x) 1) (known (trust_field x)) unknown

unfoldable pub fact_of : ℕ → Fact
fact_of x =
    record {
      subject = subject_of x;
      predicate = predicate_of x;
      object = object_of x;
      trust = trust_of x;
    }

-- ---- a sound record

-- no term is 0
abbrev pub terms_nonzero : ℕ → Bool
terms_nonzero x = not (eqb (subject_of x) 0) && not (eqb (predicate_of x) 0) && not (eqb (object_of x) 0)

-- the trust field is at most 2000, and 0 beside a known bit of 0
abbrev pub trust_sound : ℕ → Bool
trust_sound x = leb (trust_field x) 2000 && (eqb (known_bit x) 1 || eqb (trust_field x) 0)

abbrev pub record_sound : ℕ → Bool
record_sound x = terms_nonzero x && trust_sound x

-- f stands below g: by subject, then predicate, then object
unfoldable pub below : Fact → Fact → Bool
below f g =
    ltb f.subject g.subject
    || (eqb f.subject g.subject
    && (ltb f.predicate g.predicate || (eqb f.predicate g.predicate && ltb f.object g.object)))

-- ---- what a call sees of a table

-- how many records, from the first
pub record View : Type 0 where
  pub records : ℕ

-- every record of the table
abbrev pub whole_table : List ℕ → View
whole_table t = record { records = length t / record_length }

-- what a view shows of record i: a list of one fact
unfoldable pub fact_at : View → List ℕ → ℕ → List Fact
fact_at v t i = fact_of (record_at t i) ∷ []

-- the facts that a view shows, in the order of the records
unfoldable pub facts_in : View → List ℕ → List Fact
facts_in v t = concat_map (fact_at v t) (up_from 0 v.records)
