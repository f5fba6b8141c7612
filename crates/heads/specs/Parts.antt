-- The head of a condition or a node, with the place behind its own bytes, and how many operands it has. That heads and operands are the
-- definitions' readers is proved in the crate query. Places are counted from the start of the part. Assumes nothing.
use Rattle.std.specs.Prelude.{Bool, true, false, ◌&&◌, cond, List, ℕ, ◌/◌, ◌%◌, eqb, leb, ltb, length, get_or}
use Rattle.tsparql.specs.Reading.{Read, got, fault, require, kind_of, low_of, bits24, term_sound}
use Rattle.heads.specs.declared.ConditionHead.{ConditionHead}
use Rattle.heads.specs.declared.ConditionHead.TheVariants as C
use Rattle.heads.specs.declared.Head.{Head}
use Rattle.heads.specs.declared.Head.TheVariants as H

-- ---- conditions

-- same, or less, with n for the first variable
abbrev pub pair_head : List ℕ → ℕ → Bool → Read ConditionHead
pair_head s n is_same =
    require (leb 2 (length s) && ltb (get_or s 1 0) 16) (got (cond is_same (C.Same n (get_or s 1 0)) (C.Less n (get_or s 1 0))) 2)

-- is-term, with n for its variable
abbrev pub term_head : List ℕ → ℕ → Read ConditionHead
term_head s n = require (leb 4 (length s) && term_sound (bits24 s 1)) (got (C.IsTerm n (bits24 s 1)) 4)

-- not, and, or, true
abbrev pub connective : ℕ → ℕ → Read ConditionHead
connective kind n =
    require (eqb n 0)
    (cond (eqb kind 4) (got C.Not 1)
    (cond (eqb kind 5) (got C.And 1)
    (cond (eqb kind 6) (got C.Or 1)
    (cond (eqb kind 7) (got C.True 1) (fault 0)))))

-- the head, and the place behind its own bytes
unfoldable pub condition_head_read : List ℕ → Read ConditionHead
condition_head_read s =
    cond (eqb (length s) 0) (fault 0)
    (cond (eqb (kind_of s) 0) (got (C.Bound (low_of s)) 1)
    (cond (eqb (kind_of s) 1) (pair_head s (low_of s) true)
    (cond (eqb (kind_of s) 2) (term_head s (low_of s))
    (cond (eqb (kind_of s) 3) (pair_head s (low_of s) false)
    (connective (kind_of s) (low_of s))))))

-- how many conditions are its operands
abbrev pub condition_operands : ConditionHead → ℕ
condition_operands (C.Bound v) = 0
condition_operands (C.Same v w) = 0
condition_operands (C.IsTerm v a) = 0
condition_operands (C.Less v w) = 0
condition_operands C.Not = 1
condition_operands C.And = 2
condition_operands C.Or = 2
condition_operands C.True = 0

-- ---- nodes

-- ensure trust: n is 0, and two bounds of 12 bits
abbrev pub bounds_head : List ℕ → ℕ → Read Head
bounds_head s n =
    require (eqb n 0)
    (require (leb 4 (length s) && leb (bits24 s 1 / 4096) 2000 && leb (bits24 s 1 % 4096) 2000)
    (got (H.EnsureTrust (bits24 s 1 / 4096) (bits24 s 1 % 4096)) 4))

-- join, left join, union, filter
abbrev pub plain_head : ℕ → ℕ → Read Head
plain_head kind n =
    require (eqb n 0)
    (cond (eqb kind 1) (got H.Join 1)
    (cond (eqb kind 2) (got H.LeftJoin 1)
    (cond (eqb kind 3) (got H.Union 1)
    (cond (eqb kind 4) (got H.Filter 1) (fault 0)))))

-- the head, and the place behind its own bytes
unfoldable pub node_head_read : List ℕ → Read Head
node_head_read s =
    cond (eqb (length s) 0) (fault 0)
    (cond (eqb (kind_of s) 0) (got (H.PatternSet (low_of s)) 1)
    (cond (eqb (kind_of s) 5) (got (H.ProjectTrust (low_of s)) 1)
    (cond (eqb (kind_of s) 6) (bounds_head s (low_of s))
    (plain_head (kind_of s) (low_of s)))))

-- how many nodes are its operands
abbrev pub node_operands : Head → ℕ
node_operands (H.PatternSet n) = 0
node_operands H.Join = 2
node_operands H.LeftJoin = 2
node_operands H.Union = 2
node_operands H.Filter = 1
node_operands (H.ProjectTrust v) = 1
node_operands (H.EnsureTrust l u) = 1
