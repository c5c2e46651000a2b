-- Books that have the same n, links and withdrawn records are asked the same graph, and give the same answers to both questions. Assumes nothing.
--   same_graph      the graph is the same
--   same_pairs      so is every answer of a pair question
--   same_chain      and every outcome of a chain question to which the reply is the same
--   some_reply      every text has a reply to a chain question
use Rattle.std.specs.Prelude.{◌≡◌, Bool, not, ◌&&◌, ℕ, ltb, length, take}
use Rattle.std.proofs.Math.Path.{refl, ap, ap₂}
use mathlib.Core.List.{List}
use Rattle.std.proofs.Common.{arith}
use Rattle.book.specs.Causes.{Cause, first_number}
use Rattle.book.specs.Book.{Link, Book, present, is_withdrawn}
use Rattle.paths.specs.Grammar.{Verdict, accepted, long, outside, large}
use Rattle.paths.specs.Chains.{Graph, asked, Reply, none}
use Rattle.paths.specs.Relations.{pairs}
use Rattle.paths.specs.Questions.{Engine, paired, unless, pairs_of, pairs_causes, pairs_answer, ReplyTo, chain_causes, chain_answer}
use Rattle.paths.specs.Inside.{Inside}
use Rattle.paths.proofs.FirstChainLaws.{reply}

pub same_graph : (b c : Book) → b.n ≡ c.n → ((k : Link) → present b.sheet k ≡ present c.sheet k)
    → ((r : ℕ) → is_withdrawn b.sheet r ≡ is_withdrawn c.sheet r) → asked b ≡ asked c
unfolding asked
same_graph b c p q w = λ i. record { n = p i; in_use = λ x. ltb x (p i) && not (w x i); present = λ k. q k i }

module _ (b c : Book) (p : b.n ≡ c.n) where
  same_causes : (d : Engine) (v : Verdict) (work : ℕ) → pairs_causes d b v work ≡ pairs_causes d c v work
  unfolding pairs_causes
  same_causes d v work = rw p

  same_members : asked b ≡ asked c → (v : Verdict) → pairs_of b v ≡ pairs_of c v
  unfolding pairs_of
  same_members g (accepted e) = ap (λ (h : Graph). pairs h e) g
  same_members g long = refl
  same_members g outside = refl
  same_members g large = refl

  pub same_pairs : asked b ≡ asked c → (d : Engine) (v : Verdict) (work room : ℕ) → pairs_answer d b v work room ≡ pairs_answer d c v work room
  unfolding pairs_answer
  same_pairs g d v work room =
      ap₂ (λ (cs : List (Cause × Bool)) (l : List ℕ). unless (first_number cs) (paired (length l) (take room l))) (same_causes d v work) (same_members g v)

  pub same_chain : (x y : ℕ) (v : Verdict) (t : Reply) (work room : ℕ) → chain_answer b x y v t work room ≡ chain_answer c x y v t work room
  unfolding chain_answer chain_causes
  same_chain x y v t work room = rw p

-- a text outside the grammar or the limits has any reply
pub some_reply : (g : Graph) → Inside g → (v : Verdict) (x y : ℕ) → (t : Reply) × ReplyTo g v x y t
some_reply g I (accepted e) x y =
    let r = reply g I e x y in
    (r.0, λ f q. let z : e ≡ f = cc in rw (← z) r.1)
some_reply g I long x y = (none, λ f q. absurd (let z : ◌≡◌ {A = ℕ} 0 1 = cc in omega arith))
some_reply g I outside x y = (none, λ f q. absurd (let z : ◌≡◌ {A = ℕ} 0 1 = cc in omega arith))
some_reply g I large x y = (none, λ f q. absurd (let z : ◌≡◌ {A = ℕ} 0 1 = cc in omega arith))
