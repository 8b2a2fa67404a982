-- How queues are linked. The queue of k is q k, 256 where it stands in none, and its place there is key k.
use Rattle.std.specs.Prelude.{◌≡◌, ℕ, ◌+◌, ◌<◌, ◌≤◌, nat_lt, get_or, length}
use Rattle.ready_queues.specs.PrioritySet.{has}
use Rattle.ready_queues.specs.Members.{queue_at, key_at}
use Rattle.ready_queues.specs.declared.queues.Queues.TheInside.{Inside}

-- h is the first of queue p whose place is b or behind; 64 or above where there is none
pub record IsNext (q key : ℕ → ℕ) (p b h : ℕ) : Type 0 where
  pub found : h < 64 → (q h ≡ p) × (b ≤ key h)
  pub least : (j : ℕ) → j < 64 → q j ≡ p → b ≤ key j → (h < 64) × (key h ≤ key j)

-- h is the last of queue p whose place is before x; 64 or above where there is none
pub record IsLast (q key : ℕ → ℕ) (p x h : ℕ) : Type 0 where
  pub found : h < 64 → (q h ≡ p) × (key h < x)
  pub last : (j : ℕ) → j < 64 → q j ≡ p → key j < x → (h < 64) × (key j ≤ key h)

-- each head is the first of its queue, each link leads to the next, and no two stand at one place
pub record IsLinked (q key hd ln : ℕ → ℕ) : Type 0 where
  pub heads : (p : ℕ) → p < 256 → IsNext q key p 0 (hd p)
  pub links : (k : ℕ) → k < 64 → q k < 256 → IsNext q key (q k) (key k + 1) (ln k)
  pub apart : (i j : ℕ) → i < 64 → j < 64 → q i < 256 → q j < 256 → key i ≡ key j → i ≡ j

pub record IsQueues (s : Inside) : Type 0 where
  pub members : length s.members.items ≡ 64
  pub heads : length s.heads.items ≡ 256
  pub links : length s.links.items ≡ 64
  pub linked : IsLinked (queue_at s.members.items) (key_at s.version s.members.items) (λ p. get_or s.heads.items p 0) (λ k. get_or s.links.items k 0)
  pub filled : (p : ℕ) → p < 256 → has s.filled p ≡ nat_lt (get_or s.heads.items p 0) 64
