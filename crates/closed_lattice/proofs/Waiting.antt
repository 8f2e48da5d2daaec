-- Pairs of states that wait to be put together.
use Rattle.std.proofs.Common.{◌≡◌, ℕ, ◌<◌, inl, inr, List, [], ◌∷◌, ◌++◌, Contains, sym, ap, subst, arith}
use Rattle.std.proofs.lemmas.List.Elements.{Contains-push, Contains-push_cases, Contains-append_left, Contains-append_right, Contains-append_cases}
use Rattle.kiss_file.specs.declared.file.KissFile.{KissFile}
use Rattle.machine_table.specs.Pieces.{IsImage}
use Rattle.partition.specs.Partition.{Together}
use Rattle.closed_lattice.specs.Inner.WaitingPairs.{AreStates, AreTogether, LeavesOut, TakesApart, AddsImages}

pub leaves_all : (p : List ℕ) (pairs : List (ℕ × ℕ)) → LeavesOut p pairs pairs
leaves_all p pairs = record { kept = λ u v among. among; taken = λ u v among. inl among }

-- a pair that is together is taken off the end
pub leaves_more : (p : List ℕ) (old rest : List (ℕ × ℕ)) (s t : ℕ) → LeavesOut p old (rest ++ (s, t) ∷ []) → Together p s t → LeavesOut p old rest
leaves_more p old rest s t so_far held = record {
  kept = λ u v among. so_far.kept u v (Contains-append_left {X = ℕ × ℕ} rest ((s, t) ∷ []) (u, v) among);
  taken = λ u v among. elim (so_far.taken u v among) [
    | inl left ↦ elim (Contains-push_cases {X = ℕ × ℕ} rest (s, t) (u, v) left) [
      | inl among_rest ↦ inl among_rest
      | inr same ↦ inr (moved p s t u v same held)
    ]
    | inr together ↦ inr together
  ];
}
  where
    moved : (p : List ℕ) (s t u v : ℕ) → ◌≡◌ {A = ℕ × ℕ} (s, t) (u, v) → Together p s t → Together p u v
    moved p s t u v same held = subst (λ (pair : ℕ × ℕ). Together p pair.0 pair.1) same held

-- a pair that is apart is taken off the end
pub takes_last : (p : List ℕ) (old rest : List (ℕ × ℕ)) (s t : ℕ) → LeavesOut p old (rest ++ (s, t) ∷ []) → (Together p s t → ⊥) → TakesApart p old s t rest
takes_last p old rest s t so_far apart = record {
  among = so_far.kept s t (Contains-push {X = ℕ × ℕ} rest (s, t));
  apart = apart;
  kept = λ u v among. so_far.kept u v (Contains-append_left {X = ℕ × ℕ} rest ((s, t) ∷ []) (u, v) among);
  taken = λ u v among. elim (so_far.taken u v among) [
    | inl left ↦ elim (Contains-push_cases {X = ℕ × ℕ} rest (s, t) (u, v) left) [
      | inl among_rest ↦ inl among_rest
      | inr same ↦ inr (inl (sym (ap (λ (pair : ℕ × ℕ). pair.0) same), sym (ap (λ (pair : ℕ × ℕ). pair.1) same)))
    ]
    | inr together ↦ inr (inr together)
  ];
}

-- none is left
pub leaves_none : (p : List ℕ) (old : List (ℕ × ℕ)) → LeavesOut p old [] → AreTogether p old
leaves_none p old all u v among =
    elim (all.taken u v among) [
      | inl (k, within, read) ↦ absurd (omega arith)
      | inr together ↦ together
    ]

pub adds_images : (F : KissFile) (s t : ℕ) (old images : List (ℕ × ℕ)) → ((u v : ℕ) → (Contains images (u, v) → IsImage F s t u v) × (IsImage F s t u v → Contains images (u, v))) → AddsImages F s t old (old ++ images)
adds_images F s t old images listed = record {
  kept = λ u v among. Contains-append_left old images (u, v) among;
  added = λ u v image. Contains-append_right old images (u, v) ((listed u v).1 image);
  only = λ u v among. elim (Contains-append_cases old images (u, v) among) [
    | inl before ↦ inl before
    | inr new ↦ inr ((listed u v).0 new)
  ];
}

pub last_among : (p : List ℕ) (old rest : List (ℕ × ℕ)) (s t : ℕ) → LeavesOut p old (rest ++ (s, t) ∷ []) → Contains old (s, t)
last_among p old rest s t left = left.kept s t (Contains-push {X = ℕ × ℕ} rest (s, t))

-- states that are left when a pair is taken off the end, and those of the pair
pub states_left : (count : ℕ) (rest : List (ℕ × ℕ)) (s t : ℕ) → AreStates count (rest ++ (s, t) ∷ []) → AreStates count rest
states_left count rest s t inside u v among = inside u v (Contains-append_left {X = ℕ × ℕ} rest ((s, t) ∷ []) (u, v) among)

pub states_taken : (count : ℕ) (rest : List (ℕ × ℕ)) (s t : ℕ) → AreStates count (rest ++ (s, t) ∷ []) → (s < count) × (t < count)
states_taken count rest s t inside = inside s t (Contains-push {X = ℕ × ℕ} rest (s, t))

pub states_more : (count : ℕ) (pairs : List (ℕ × ℕ)) (s t : ℕ) → AreStates count pairs → s < count → t < count → AreStates count (pairs ++ (s, t) ∷ [])
states_more count pairs s t inside in_s in_t u v among =
    elim (Contains-push_cases {X = ℕ × ℕ} pairs (s, t) (u, v) among) [
      | inl before ↦ inside u v before
      | inr same ↦ subst (λ (pair : ℕ × ℕ). (pair.0 < count) × (pair.1 < count)) same (in_s, in_t)
    ]
