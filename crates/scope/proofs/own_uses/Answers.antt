-- By the head of the node (`uses-by`). Assumes nothing.
use Rattle.std.proofs.Common.{◌≡◌, ℕ, List, Bool, true, false, cond, refl, sym, ap, ◌∙◌}
use mir.Val.{bool_byte}
use Rattle.tsparql.specs.Reading.{got}
use Rattle.heads.specs.declared.Head.{Head}
use Rattle.heads.specs.declared.Head.TheVariants as H
use Rattle.heads.specs.Parts.{node_head_read}
use Rattle.query.proofs.NodeParts.{node-head-inside}
use Rattle.query.specs.Found.{NodeSound, node_of}
use Rattle.scope.proofs.Walk.{head_uses, head-of-node, head-sound}
use Rattle.scope.specs.Variables.{own_uses}
use Rattle.scope.proofs.own_uses.Goals as goal

uses-by : (v : ℕ) (s : List ℕ) {own : ℕ} {head h : Head} → NodeSound s → got head own ≡ node_head_read s → head ≡ h
    → own_uses v (node_of s) ≡ head_uses v s own h
uses-by v s {own} sound e d = (head-of-node v s sound (sym e)).uses-are ∙ ap (head_uses v s own) d

one-if : (b : Bool) → bool_byte b ≡ cond b 1 0
one-if true = refl
one-if false = refl

no_uses : (v : ℕ) (s : List ℕ) (own : ℕ) (h : Head) → ((n : ℕ) → h ≡ H.PatternSet n → ⊥) → ((w : ℕ) → h ≡ H.ProjectTrust w → ⊥)
    → head_uses v s own h ≡ 0
no_uses v s own (H.PatternSet n) f g = absurd (f n cc)
no_uses v s own (H.ProjectTrust w) f g = absurd (g w cc)
no_uses v s own _ f g = refl

pub returns-in_default : goal.returns-in_default
returns-in_default c = absurd (head-sound c.args.q.now c.requires (sym c.in_default.ensures))

pub patterns_have-requires : goal.patterns_have-requires
patterns_have-requires c =
    let s = c.args.q.now in
    let found = sym c.in-Ok.ensures in
    let head = head-of-node c.args.v s c.requires found in
    ((node-head-inside s found).1, rw c.in-PatternSet.is at head.patterns-sound)

pub returns-then-patterns_have : goal.returns-then-patterns_have
returns-then-patterns_have c =
    sym (uses-by c.args.v c.args.q.now c.requires c.in-Ok.ensures c.in-PatternSet.is ∙ rw (← c.if-patterns_have.ensures))

pub returns-else-patterns_have : goal.returns-else-patterns_have
returns-else-patterns_have c =
    sym (uses-by c.args.v c.args.q.now c.requires c.in-Ok.ensures c.in-PatternSet.is ∙ rw (← c.if-patterns_have.ensures))

pub returns-in-ProjectTrust : goal.returns-in-ProjectTrust
returns-in-ProjectTrust c =
    c.from.ensures ∙ one-if _ ∙ sym (uses-by c.args.v c.args.q.now c.requires c.in-Ok.ensures c.in-ProjectTrust.is)

pub returns-in_default-head : goal.returns-in_default-head
returns-in_default-head c =
    let head = c.in-Ok.head in
    let other = c.in_default-head in
    sym (uses-by c.args.v c.args.q.now {h = head} c.requires c.in-Ok.ensures refl
    ∙ no_uses c.args.v c.args.q.now c.in-Ok.own head other.not-PatternSet other.not-ProjectTrust)
