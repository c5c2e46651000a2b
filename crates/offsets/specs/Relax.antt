-- What relaxing ties does to a list of distances.
--   State          the distances, and whether any was lowered
--   known z        z is a distance: at least -2 ^ 62 and below 2 ^ 62. Any other number stands for "not known"
--   lower          one limit: record `to` lies at most w above record `from`
--   third          both limits of a tie: the second at most `most` above the first, and the first at most -`least` above the second
--   relax_tie n     three parts of n distances stand in the list, one after the other, and each is relaxed: the last one by the tie turned round, first and
--                  second exchanged
--   relax_all n     every tie of a list, in its order
--   settled n k    passes over all ties until one lowers nothing, at most k
-- Assumes nothing.
use Rattle.std.specs.Prelude.{ℕ, zero, suc, ◌+◌, ◌-◌, ◌*◌, ◌^◌, Bool, true, false, List, [], ◌∷◌, ltb, ℤ, pos, neg_ℤ, ◌+ℤ◌, length, get_or, set}
use Rattle.std.specs.Int.Signed.{lt_z, mag}
use Rattle.offsets.specs.declared.Tie.{Tie}

abbrev pub State : Type 0
State = List ℤ × Bool

abbrev pub pick : Bool → State → State → State
pick true a b = a
pick false a b = b

abbrev pub known : ℤ → Bool
known z = ltb (mag z) (2 ^ 62)

-- the distance of record i
abbrev pub dist : List ℤ → ℕ → ℤ
dist l i = get_or l i (pos 0)

-- record `to` gets the number v, if that is less than what it has
abbrev pub put_less : ℕ → ℤ → State → State
put_less to v s = pick (lt_z v (dist s.0 to)) (set s.0 to v, true) s

unfoldable pub lower : ℕ → ℕ → ℤ → State → State
lower from to w s =
    pick (ltb from (length s.0)) (pick (ltb to (length s.0)) (pick (known (dist s.0 from)) (put_less to (dist s.0 from +ℤ w) s) s) s) s

-- both limits of a tie, for records that stand from place o on
unfoldable pub third : ℕ → ℕ → ℕ → ℤ → ℤ → State → State
third o first second least most s = lower (o + second) (o + first) (neg_ℤ least) (lower (o + first) (o + second) most s)

unfoldable pub relaxed : ℕ → ℕ → ℕ → ℤ → ℤ → State → State
relaxed n first second least most s = third (n * 2) second first least most (third n first second least most (third 0 first second least most s))

abbrev pub relax_tie : ℕ → Tie → State → State
relax_tie n t s = relaxed n t.first t.second t.least t.most s

abbrev pub relax_all : ℕ → List Tie → State → State
relax_all n [] s = s
relax_all n (t ∷ ts) s = relax_all n ts (relax_tie n t s)

abbrev pub left_after : Bool → ℕ → ℕ
left_after true k = k - 1
left_after false k = 0

abbrev pub one_pass : ℕ → List Tie → State → State
one_pass n ts s = relax_all n ts (s.0, false)

unfoldable pub settled : ℕ → ℕ → List Tie → State → State
settled n zero ts s = s
settled n (suc k) ts s = pick (one_pass n ts s).1 (settled n k ts (one_pass n ts s)) (one_pass n ts s)
