-- One frame more on the stack. Assumes nothing.
use Rattle.std.proofs.Common.{◌≡◌, ℕ, zero, suc, ◌+◌, ◌<◌, Bool, List, [], ◌∷◌, ◌++◌, length, refl, ap, subst, arith}
use Rattle.custom.specs.Worlds.{World}
use Rattle.matcher.specs.Nodes.{Node}
use Rattle.matching.specs.Stacks.{Sound, Sounds, above, unwind, load, after, toll}
use Rattle.matching.specs.declared.frames.Frame.{Frame}

pub above_push : (d : ℕ) (fs : List Frame) (f : Frame) (e : ℕ) → above d fs ≡ suc e → above d (fs ++ (f ∷ [])) ≡ e
unfolding above
above_push zero [] f e h = omega arith
above_push (suc d) [] f e h = omega arith
above_push zero (g ∷ fs) f e h = omega arith
above_push (suc d) (g ∷ fs) f e h = above_push d fs f e h

pub above_length : (d : ℕ) (fs : List Frame) (e : ℕ) → above d fs ≡ suc e → length fs < d
unfolding above
above_length zero [] e h = omega arith
above_length (suc d) [] e h = omega arith
above_length zero (g ∷ fs) e h = omega arith
above_length (suc d) (g ∷ fs) e h = omega (arith, above_length d fs e h)

module _ (W : World) (ns : List Node) where
  pub unwind_push : (fs : List Frame) (f : Frame) (b : Bool) → unwind W ns (fs ++ (f ∷ [])) b ≡ unwind W ns fs (after W ns f b)
  unfolding unwind
  unwind_push [] f b = refl
  unwind_push (g ∷ fs) f b = ap (after W ns g) (unwind_push fs f b)

  pub load_push : (d : ℕ) (fs : List Frame) (f : Frame) (e : ℕ) → above d fs ≡ suc e → load W ns d (fs ++ (f ∷ [])) ≡ load W ns d fs + toll W ns e f
  unfolding above load
  load_push zero [] f e h = omega arith
  load_push (suc d) [] f e h = let z : d ≡ e = omega arith in rw z (omega arith)
  load_push zero (g ∷ fs) f e h = omega arith
  load_push (suc d) (g ∷ fs) f e h = omega (arith, load_push d fs f e h)

  pub sounds_push : (d : ℕ) (fs : List Frame) (f : Frame) (e : ℕ) → above d fs ≡ suc e → Sounds W ns d fs → Sound W ns e f → Sounds W ns d (fs ++ (f ∷ []))
  unfolding above Sounds
  sounds_push zero [] f e h all one = absurd (omega arith)
  sounds_push (suc d) [] f e h all one = let z : e ≡ d = omega arith in (subst (λ x. Sound W ns x f) z one, tt)
  sounds_push zero (g ∷ fs) f e h all one = all
  sounds_push (suc d) (g ∷ fs) f e h all one = (all.0, sounds_push d fs f e h all.1 one)

  -- the frame on the top
  pub record Top (d : ℕ) (fs : List Frame) (f : Frame) : Type 0 where
    pub under : ℕ
    pub high : above d fs ≡ suc under
    pub rest : Sounds W ns d fs
    pub sound : Sound W ns under f

  pub sounds_pop : (d : ℕ) (fs : List Frame) (f : Frame) → Sounds W ns d (fs ++ (f ∷ [])) → Top d fs f
  unfolding above Sounds
  sounds_pop zero [] f all = absurd all
  sounds_pop (suc d) [] f all = record { under = d; high = refl; rest = tt; sound = all.0 }
  sounds_pop zero (g ∷ fs) f all = absurd all
  sounds_pop (suc d) (g ∷ fs) f all =
      let t = sounds_pop d fs f all.1 in
      record { under = t.under; high = t.high; rest = (all.0, t.rest); sound = t.sound }
